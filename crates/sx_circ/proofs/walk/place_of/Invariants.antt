use Rattle.std.proofs.Common.{◌≢◌, ℕ, ◌<◌}
use Rattle.sx_circ.specs.Walks.{asset_at}
use Rattle.sx_circ.proofs.walk.place_of.Given as goal

abbrev pub invariant-loop-place : goal.invariant-loop-place
invariant-loop-place l = (k : ℕ) → k < l.place → asset_at l.walk k ≢ l.asset
