use Rattle.std.proofs.Common.{◌≡◌, ℕ, ◌<◌, ◌≤◌, get_or, length}
use Rattle.sx_curve.proofs.begins.set_begins.Given as goal

abbrev pub invariant-loop-place : goal.invariant-loop-place
invariant-loop-place l =
    (l.from ≤ l.place) × (length l.begins ≡ length l.fn.begins)
    × ((k : ℕ) → l.from ≤ k → k < l.place → get_or l.begins k 0 ≡ l.at)
    × ((k : ℕ) → k < l.from → get_or l.begins k 0 ≡ get_or l.fn.begins k 0)
