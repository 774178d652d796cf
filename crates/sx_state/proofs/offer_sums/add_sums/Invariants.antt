use Rattle.std.proofs.Common.{◌≡◌, ℕ, ◌+◌, ◌<◌, ◌≤◌}
use Rattle.std.specs.Prelude.{slice_index}
use Rattle.sx_state.proofs.offer_sums.add_sums.Given as goal

abbrev pub invariant-loop-asset : goal.invariant-loop-asset
invariant-loop-asset l = record {
  before : (k : ℕ) → k < l.asset → slice_index l.totals k ≡ slice_index l.fn.totals k + slice_index l.sums k;
  after : (k : ℕ) → l.asset ≤ k → slice_index l.totals k ≡ slice_index l.fn.totals k;
}
