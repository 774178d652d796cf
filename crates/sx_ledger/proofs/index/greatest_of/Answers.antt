use Rattle.std.proofs.Common.{◌≡◌, ◌-◌, length, Some, rules}
use Rattle.std.specs.Prelude.{slice_get}
use Rattle.sx_ledger.proofs.BucketLaws.{last_greatest}
use Rattle.sx_ledger.proofs.index.greatest_of.Goals as goal

pub returns-in-Some : goal.returns-in-Some
returns-in-Some c =
    let xs = c.args.entries.now in
    let last : slice_get xs (length xs - 1) ≡ Some c.in-Some.entry.now = search rules in
    last_greatest xs c.requires.by_id c.in-Some.entry.now last
