use Rattle.sx_curve.proofs.InOrder.{RiseWithin}
use Rattle.sx_curve.proofs.curves.are_in_order.Given as goal

abbrev pub invariant-loop-place : goal.invariant-loop-place
invariant-loop-place l = RiseWithin l.quotes l.place
