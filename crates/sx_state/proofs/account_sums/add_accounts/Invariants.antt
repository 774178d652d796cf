use Rattle.std.proofs.Common.{◌≡◌, ℕ, ◌+◌, ◌*◌, ◌^◌, ◌<◌, ◌≤◌, length, take}
use Rattle.std.specs.Prelude.{sum_by, slice_index, All}
use Rattle.sx_ledger.specs.Ledger.{balance_at}
use Rattle.sx_state.proofs.account_sums.add_accounts.Given as goal

abbrev pub invariant-loop-account : goal.invariant-loop-account
invariant-loop-account l = record {
  sums : (k : ℕ) → k < length l.fn.sums
      → slice_index l.sums k ≡ slice_index l.fn.sums k + sum_by (balance_at k) (take l.account-index l.accounts);
  small : All (λ sum. sum ≤ l.account-index * 2 ^ 62) l.sums;
}
