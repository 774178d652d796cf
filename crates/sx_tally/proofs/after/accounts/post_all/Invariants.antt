use Rattle.std.proofs.Common.{◌≡◌, ℕ, ◌+◌, ◌-◌, ◌<◌, ◌≤◌, length, slice_index}
use Rattle.sx_tally.specs.Postings.{credit_at, debit_at}
use Rattle.sx_tally.proofs.after.accounts.post_all.Given as goal

abbrev pub invariant-loop-asset : goal.invariant-loop-asset
invariant-loop-asset l = record {
  as_many : length l.balances ≡ length l.initial.balances;
  moved : (asset : ℕ) → asset < l.asset → slice_index l.balances asset
      ≡ (slice_index l.initial.balances asset + credit_at l.postings l.place asset) - debit_at l.postings l.place asset;
  unmoved : (asset : ℕ) → l.asset ≤ asset
      → slice_index l.balances asset ≡ slice_index l.initial.balances asset;
}
