use Rattle.std.proofs.Common.{◌≡◌, ℕ, ◌+◌, ◌<◌, ◌≤◌}
use Rattle.std.specs.Prelude.{slice_index}
use Rattle.sx_state.proofs.account_sums.add_balances.Given as goal

abbrev pub invariant-loop-asset : goal.invariant-loop-asset
invariant-loop-asset l = record {
  before : (k : ℕ) → k < l.asset → slice_index l.sums k ≡ slice_index l.fn.sums k + slice_index l.balances k;
  after : (k : ℕ) → l.asset ≤ k → slice_index l.sums k ≡ slice_index l.fn.sums k;
}
