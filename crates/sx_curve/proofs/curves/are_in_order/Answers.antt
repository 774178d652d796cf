use Rattle.std.proofs.Common.{arith}
use Rattle.sx_curve.proofs.InOrder.{in_order_from_rise}
use Rattle.sx_curve.proofs.curves.are_in_order.Goals as goal

pub returns : goal.returns
returns c =
    in_order_from_rise c.args.quotes.now
    (λ k d lt. c.loop-place.invariant k d (omega (arith, lt, c.loop-place-test.false)))
