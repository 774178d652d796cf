use Rattle.std.proofs.Common.{◌≡◌, ℕ, ◌<◌, length, slice_index}
use Rattle.sx_circ.specs.Labels.{height_of}
use Rattle.sx_circ.proofs.solver.heights.Given as goal

abbrev pub invariant-loop-asset : goal.invariant-loop-asset
invariant-loop-asset l = record {
  count : length l.heights.items ≡ l.asset;
  each : (k : ℕ) → k < l.asset → slice_index l.heights.items k ≡ height_of l.walks k;
}
