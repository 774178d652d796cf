use Rattle.std.proofs.Common.{◌<◌, ℕ, get_or, length}
use Rattle.sx_clear.specs.Bounding.{IsValueAt, may_value}
use Rattle.sx_clear.proofs.prices.bounding.write_most.Given as goal

abbrev pub invariant-loop-place : goal.invariant-loop-place
invariant-loop-place l =
    (k d : ℕ) → k < l.place
    → IsValueAt (length l.prices) (may_value l.curves.quotes l.prices) k (get_or l.entries k d)
