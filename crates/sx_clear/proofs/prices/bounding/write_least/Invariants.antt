use Rattle.std.proofs.Common.{◌<◌, ℕ, get_or, length}
use Rattle.sx_clear.specs.Bounding.{IsValueAt, must_value}
use Rattle.sx_clear.proofs.prices.bounding.write_least.Given as goal

abbrev pub invariant-loop-place : goal.invariant-loop-place
invariant-loop-place l =
    (k d : ℕ) → k < l.place
    → IsValueAt (length l.prices) (must_value l.curves.quotes l.prices l.mu) k (get_or l.entries k d)
