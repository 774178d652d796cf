use Rattle.std.proofs.Common.{◌+◌, ◌/◌, ◌^◌, ◌<◌, length, arith}
use Rattle.sx_ledger.proofs.BucketLaws.{begin_at, begins_rise, past_last}
use Rattle.sx_ledger.proofs.index.AccountIndex.find.Goals as goal

pub find_between-requires-clause-ordered : goal.find_between-requires-clause-ordered
find_between-requires-clause-ordered c =
    let inside = c.self.inside in
    let buckets = c.self.invariant.2 in
    let bucket = c.args.id.0 / 2 ^ inside.shift in
    let within : bucket + 1 < length inside.begins.items = omega (arith, c.if-bucket-saturating_sub.false) in
    begins_rise inside.entries.items inside.shift bucket c.index.result.now c.index-2.result.now
    (begin_at inside.entries.items inside.shift inside.begins.items buckets.places bucket c.index.result.now
    c.index.result.now (omega arith) c.index.ensures)
    (begin_at inside.entries.items inside.shift inside.begins.items buckets.places (bucket + 1) c.index-2.result.now
    c.index-2.result.now within c.index-2.ensures)

pub returns-in-Some-clause-by_id : goal.returns-in-Some-clause-by_id
returns-in-Some-clause-by_id c = c.find_in_table.ensures.by_id

pub returns-then-bucket-saturating_sub-clause-absent : goal.returns-then-bucket-saturating_sub-clause-absent
returns-then-bucket-saturating_sub-clause-absent c =
    let inside = c.self.inside in
    rw (← c.self.view_is)
    (past_last inside.entries.items inside.shift inside.begins.items c.self.invariant.2 c.args.id.0
    (omega (arith, c.if-bucket-saturating_sub.true)))
