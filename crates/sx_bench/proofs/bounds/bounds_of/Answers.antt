use Rattle.std.proofs.Common.{arith}
use Rattle.sx_bench.proofs.Tables.{fill_more}
use Rattle.sx_bench.proofs.Spans.{ordered_more}
use Rattle.sx_bench.proofs.bounds.bounds_of.Goals as goal

pub loop-place-preserved : goal.loop-place-preserved
loop-place-preserved c =
    let n = c.args.assets in
    let place = c.loop-place.place in
    let span = c.in_ok-span.span in
    let is = c.in_ok-span.ensures in
    rw (c.in_ok-push.ensures.items, c.in_ok-push-2.ensures.items)
    (record {
      low = fill_more n c.loop-place.low.items place span.low c.loop-place.invariant.low
          (omega (arith, is.ordered, is.in_range))
          (λ same. omega (arith, is.ordered, is.itself same));
      high = fill_more n c.loop-place.high.items place span.high c.loop-place.invariant.high
          is.in_range is.itself;
      ordered = ordered_more c.loop-place.low.items c.loop-place.high.items place span.low span.high
          c.loop-place.invariant.low.count c.loop-place.invariant.high.count is.ordered
          c.loop-place.invariant.ordered;
    })
