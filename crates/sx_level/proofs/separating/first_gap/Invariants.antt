use Rattle.std.proofs.Common.{ℕ, ◌<◌, length}
use Rattle.sx_level.specs.Levels.{IsHeld}
use Rattle.sx_level.proofs.separating.first_gap.Given as goal

abbrev pub invariant-loop-level : goal.invariant-loop-level
invariant-loop-level l = (at : ℕ) → at < l.level → IsHeld (length l.heights) l.heights at
