use Rattle.sx_curve.proofs.InOrder.{in_order_from_sort}
use Rattle.sx_curve.proofs.curves.sorted.Goals as goal

pub returns-then-not-are_in_order-clause-in_order : goal.returns-then-not-are_in_order-clause-in_order
returns-then-not-are_in_order-clause-in_order c =
    in_order_from_sort c.sort_unstable.new.self.items c.sort_unstable.ensures.sorted
