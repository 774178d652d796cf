-- Adding to the totals of all assets at once.
use Rattle.std.proofs.Common.{◌≡◌, ℕ, ◌+◌, ◌*◌, ◌^◌, ◌<◌, ◌≤◌, List, length, get_or, take, ap, ◌∙◌, arith, inl, inr}
use Rattle.std.specs.Prelude.{sum_by, slice_index, All}
use Rattle.std.proofs.lemmas.Bool.{cases_lt}
use Rattle.std.proofs.lemmas.List.{get_or_default, get_or_past}
use Rattle.std.proofs.lemmas.List.Sums.{sum_by_more}
use Rattle.sx_ledger.specs.declared.account.Account.{Account}
use Rattle.sx_ledger.specs.Ledger.{balance_at}

module _ (new old balances : List ℕ) (as_many : length new ≡ length old) (few : length balances ≤ length old)
    (added : (k : ℕ) → k < length old → slice_index new k ≡ slice_index old k + slice_index balances k) where
  -- a balance of this account, which has none of the assets past its last one
  balance_small : (k : ℕ) → All (λ balance. balance ≤ 2 ^ 62) balances → slice_index balances k ≤ 2 ^ 62
  balance_small k in_range =
      elim (cases_lt k (length balances)) [
        | inl lt ↦ in_range k 0 lt
        | inr past ↦ rw (get_or_past balances k 0 past) (omega arith)
      ]

  pub small_more : (i : ℕ) → All (λ balance. balance ≤ 2 ^ 62) balances
      → All (λ sum. sum ≤ i * 2 ^ 62) old → All (λ sum. sum ≤ (i + 1) * 2 ^ 62) new
  small_more i in_range small k d lt =
      let here : k < length old = omega arith in
      let before = small k 0 here in
      let more = balance_small k in_range in
      let sum = added k here in
      let same : get_or new k d ≡ get_or new k 0 = get_or_default new k d 0 lt in
      rw same (omega arith)

  pub sums_more : (accounts : List Account) (i : ℕ) (start : List ℕ) (account : Account) → i < length accounts
      → account ≡ get_or accounts i account → balances ≡ account.balances
      → (k : ℕ) → k < length old → slice_index old k ≡ slice_index start k + sum_by (balance_at k) (take i accounts)
      → slice_index new k ≡ slice_index start k + sum_by (balance_at k) (take (i + 1) accounts)
  sums_more accounts i start account lt is same k here before =
      let more = sum_by_more (balance_at k) accounts i account lt in
      let this : slice_index balances k ≡ balance_at k (get_or accounts i account) =
      ap (λ (xs : List ℕ). slice_index xs k) same ∙ ap (balance_at k) is in
      let sum = added k here in
      omega arith
