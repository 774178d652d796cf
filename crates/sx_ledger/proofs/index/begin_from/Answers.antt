use Rattle.std.proofs.Common.{◌/◌, ◌^◌, ◌≤◌, get_or, arith}
use Rattle.sx_ledger.proofs.BucketLaws.{buckets_rise}
use Rattle.sx_ledger.proofs.index.begin_from.Goals as goal

pub returns-else-entries-place : goal.returns-else-entries-place
returns-else-entries-place c =
    let xs = c.args.entries.now in
    let place = c.loop-place.place in
    let here : c.args.bucket ≤ get_or xs place 0 / 2 ^ c.args.shift = omega (arith, c.if-entries-place.false) in
    record {
      within = c.loop-place.invariant.0;
      earlier = c.loop-place.invariant.1;
      later = λ k le lt.
          let rise = buckets_rise xs c.requires.by_id c.args.shift place k le lt in
          omega arith;
    }
