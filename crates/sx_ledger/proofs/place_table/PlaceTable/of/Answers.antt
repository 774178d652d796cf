use Rattle.std.proofs.Common.{◌+◌, ◌≤◌, get_or, arith, rules}
use Rattle.std.specs.Prelude.{slice_get, Some, ◌≡◌}
use Rattle.std.proofs.lemmas.Option.{get_or_from_slice_get}
use Rattle.sx_ledger.proofs.SearchNumbers.{rises_far}
use Rattle.sx_ledger.proofs.place_table.PlaceTable.of.Goals as goal

pub filled-requires-clause-first : goal.filled-requires-clause-first
filled-requires-clause-first c = λ k lt.
    let xs = c.args.entries.now in
    let read : slice_get xs 0 ≡ Some c.in-Some-Some.first.now = search rules in
    let is : get_or xs 0 0 ≡ c.in-Some-Some.first.now =
    get_or_from_slice_get xs 0 c.in-Some-Some.first.now 0 read in
    let rise : get_or xs 0 0 ≤ get_or xs (0 + k) 0 = rises_far xs c.requires.by_id 0 k (omega (arith, lt)) in
    let same : 0 + k ≡ k = omega arith in
    rw (← is) (rw same at rise)
