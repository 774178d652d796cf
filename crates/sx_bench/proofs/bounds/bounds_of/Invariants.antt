use Rattle.std.proofs.Common.{ℕ, ◌<◌, ◌≤◌, slice_index}
use Rattle.sx_bench.proofs.Tables.{IsFilled}
use Rattle.sx_bench.proofs.bounds.bounds_of.Given as goal

abbrev pub invariant-loop-place : goal.invariant-loop-place
invariant-loop-place l = record {
  low : IsFilled l.assets l.low.items l.place;
  high : IsFilled l.assets l.high.items l.place;
  ordered : (k : ℕ) → k < l.place → slice_index l.low.items k ≤ slice_index l.high.items k;
}
