use Rattle.std.proofs.Common.{◌≢◌, ℕ, ◌<◌}
use Rattle.std.specs.Prelude.{slice_index}
use Rattle.sx_level.proofs.separating.is_held.Given as goal

abbrev pub invariant-loop-height : goal.invariant-loop-height
invariant-loop-height l = (a : ℕ) → a < l.height-index → slice_index l.heights a ≢ l.level
