-- What a binary search by id finds among accounts that stand strictly by id.
use Rattle.std.proofs.Common.{◌≡◌, ℕ, ◌+◌, ◌-◌, ◌<◌, ◌≤◌, List, [], length, get_or, Option, Some, Result, Ok, Err}
use Rattle.std.proofs.Common.{IfOk, IfErr, inl, inr, sym, ap, subst, ◌∙◌, arith}
use Rattle.std.specs.Prelude.{slice_get, Contains, IfSome, IfNone}
use Rattle.std.specs.List.{HoldsAt}
use Rattle.std.specs.List.Sorted.{IsSearchInRange, IsBinarySearchResult, IsNonDecreasingBy, IsStrictlyIncreasing}
use Rattle.std.specs.Result.{result_ok}
use Rattle.std.specs.Ordering.{nat_cmp, ordering_index}
use Rattle.std.specs.declared.cmp.Ordering.TheVariants as ordering
use Rattle.std.proofs.lemmas.Bool.{cases_lt}
use Rattle.std.proofs.lemmas.Bool.Decides.{nat_tests}
use Rattle.std.proofs.lemmas.Cmp.{ranked}
use Rattle.std.proofs.lemmas.List.{get_or-map, length-map, get_or_default}
use Rattle.std.proofs.lemmas.Option.{slice_get-get_or}
use Rattle.sx_ledger.specs.declared.account.Account.{Account}
use Rattle.sx_ledger.specs.Ledger.{ids}
use Rattle.sx_ledger.proofs.SearchNumbers.{rises_far}

module _ (accounts : List Account) (up : IsStrictlyIncreasing (ids accounts)) (id : ℕ) where
  id_at : (i : ℕ) (d : Account) → i < length accounts → get_or (ids accounts) i 0 ≡ (get_or accounts i d).id.0
  id_at i d lt = get_or-map (λ (account : Account). account.id.0) accounts i d 0 lt

  -- the comparisons with the id rise along the list, as a binary search asks
  comparisons_rise : IsNonDecreasingBy (λ account. ordering_index (nat_cmp account.id.0 id)) accounts
  comparisons_rise i j d le in_range =
      let same : i + (j - i) ≡ j = omega arith in
      let far : get_or (ids accounts) i 0 ≤ get_or (ids accounts) (i + (j - i)) 0 =
      rises_far (ids accounts) up i (j - i)
      (omega (arith, length-map accounts (λ (account : Account). account.id.0))) in
      let ids_rise : (get_or accounts i d).id.0 ≤ (get_or accounts j d).id.0 =
      rw (← id_at i d (omega arith), ← id_at j d in_range) (rw same at far) in
      grind (arith, nat_tests)

  found_at : (at : ℕ) → at < length accounts
      → HoldsAt (λ account. nat_cmp account.id.0 id ≡ ordering.Equal) accounts at
      → slice_get (ids accounts) at ≡ Some id
  found_at at lt equal =
      let none : Account = record { id = record { 0 = 0 }; window = record { last = 0; used = 0 }; balances = [] } in
      let here : (get_or accounts at none).id.0 ≡ id = ranked _ id _ (sym (equal none)) in
      slice_get-get_or (ids accounts) at 0 (omega (arith, length-map accounts (λ (account : Account). account.id.0)))
      ∙ ap (λ (x : ℕ). Some x) (id_at at none lt ∙ here)

  -- no account has the id where the search ends at a gap
  absent_at : (at : ℕ) → at ≤ length accounts
      → IsBinarySearchResult (λ account. nat_cmp account.id.0 id) accounts (Err at) → Contains (ids accounts) id → ⊥
  absent_at at le parted (k, below, here) =
      let none : Account = record { id = record { 0 = 0 }; window = record { last = 0; used = 0 }; balances = [] } in
      let in_range : k < length accounts = omega (arith, length-map accounts (λ (account : Account). account.id.0)) in
      let is : (get_or accounts k none).id.0 ≡ id =
      sym (id_at k none in_range) ∙ get_or_default (ids accounts) k 0 id below ∙ here in
      let parts = parted comparisons_rise in
      elim (cases_lt k at) [
        | inl lt ↦ let less : (get_or accounts k none).id.0 < id =
            ranked _ id _ (sym (parts.0 k none (omega arith) lt)) in absurd (omega arith)
        | inr ge ↦ let more : id < (get_or accounts k none).id.0 = ranked _ id _ (sym (parts.1 k none ge in_range)) in
            absurd (omega arith)
      ]

  -- a binary search by id ends at the account, or shows that there is none
  pub searched : (r : Result ℕ ℕ) → IsSearchInRange r (length accounts)
      → IsBinarySearchResult (λ account. nat_cmp account.id.0 id) accounts r
      → IfOk r (λ at. slice_get (ids accounts) at ≡ Some id) × IfErr r (λ _. Contains (ids accounts) id → ⊥)
  searched (Ok at) in_range equal = (found_at at in_range equal, tt)
  searched (Err at) in_range parted = (tt, absent_at at in_range parted)

  -- the same, where only the place is kept
  pub searched_ok : (r : Result ℕ ℕ) (found : Option ℕ) → found ≡ result_ok r → IsSearchInRange r (length accounts)
      → IsBinarySearchResult (λ account. nat_cmp account.id.0 id) accounts r
      → IfSome found (λ at. slice_get (ids accounts) at ≡ Some id) × IfNone found (Contains (ids accounts) id → ⊥)
  searched_ok (Ok at) found same in_range equal =
      subst (λ (f : Option ℕ). IfSome f (λ at. slice_get (ids accounts) at ≡ Some id)
      × IfNone f (Contains (ids accounts) id → ⊥)) (sym same) (found_at at in_range equal, tt)
  searched_ok (Err at) found same in_range parted =
      subst (λ (f : Option ℕ). IfSome f (λ at. slice_get (ids accounts) at ≡ Some id)
      × IfNone f (Contains (ids accounts) id → ⊥)) (sym same) (tt, absent_at at in_range parted)
