use Rattle.std.proofs.Common.{ℕ, ◌<◌}
use Rattle.sx_circ.specs.Labels.{IsStay, walk_to}
use Rattle.sx_circ.proofs.searching.lower.Given as goal

abbrev pub invariant-loop-asset : goal.invariant-loop-asset
invariant-loop-asset l = (k : ℕ) → k < l.asset → IsStay k (walk_to l.walks k)
