use Rattle.std.proofs.Common.{ℕ, ◌+◌, ◌^◌, ◌≡◌, ◌≤◌, ◌<◌, ◌++◌, drop, take, get_or, length, ◌∙◌, arith}
use Rattle.std.proofs.lemmas.List.{take-append-le, take_all}
use Rattle.sx_tally.specs.Sums.{CanAdd, amounts_of}
use Rattle.sx_tally.proofs.SumUnits.{can_add_narrow, still_within}
use Rattle.sx_tally.proofs.units.Units.add_all.Goals as goal

pub add_narrow-requires : goal.add_narrow-requires
add_narrow-requires c =
    let entries = c.args.entries.now in
    let rows = c.args.rows.now in
    let sums = c.in-Narrow.sums.items in
    let added = c.in-Narrow.added in
    let room : (added < 2 ^ 64) × ((at : ℕ) → get_or sums at 0 + amounts_of entries ≤ added) =
    rw c.in-Narrow.is at c.requires.room in
    let can : CanAdd (2 ^ 128) entries rows sums = rw c.in-Narrow.is at c.requires.entries in
    rw c.deref_mut.ensures.value (can_add_narrow entries rows added sums room.1 (2 ^ 128) can room.0)

pub returns-in-Narrow-clause-room : goal.returns-in-Narrow-clause-room
returns-in-Narrow-clause-room c =
    let entries = c.args.entries.now in
    let rows = c.args.rows.now in
    let sums = c.in-Narrow.sums.items in
    let added = c.in-Narrow.added in
    let after = c.add_narrow.new.sums in
    let room : (added < 2 ^ 64) × ((at : ℕ) → get_or sums at 0 + amounts_of entries ≤ added) =
    rw c.in-Narrow.is at c.requires.room in
    let is = rw c.deref_mut.ensures.value at c.add_narrow.ensures in
    let long : length after ≡ c.in-Narrow.sums.len = omega (arith, is.as_many) in
    let same : take c.in-Narrow.sums.len (after ++ drop (length after) sums) ≡ after =
    take-append-le c.in-Narrow.sums.len after (drop (length after) sums) (omega arith)
    ∙ take_all c.in-Narrow.sums.len after (omega arith) in
    rw same (room.0, still_within entries rows added sums room.1 after is)
