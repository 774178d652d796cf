-- What a binary search by key finds among offers that stand in order of their keys.
use Rattle.std.proofs.Common.{◌≡◌, ℕ, zero, suc, ◌+◌, ◌<◌, ◌≤◌, true, false, List, [], ◌∷◌, length, get_or, Option}
use Rattle.std.proofs.Common.{Some, None, Result, Ok, Err, IfOk, IfErr, inl, inr, refl, sym, ap, subst, ◌∙◌, arith}
use Rattle.std.specs.Prelude.{slice_get, Contains}
use Rattle.std.specs.List.{HoldsAt}
use Rattle.std.specs.List.Sorted.{IsSearchInRange, IsBinarySearchResult, IsNonDecreasingBy, IsSortedBy}
use Rattle.std.specs.declared.cmp.Ordering.{Ordering}
use Rattle.std.specs.declared.cmp.Ordering.TheVariants.{Less, Equal, Greater}
use Rattle.std.specs.Ordering.{is_lt, ordering_index, ordering_reverse}
use Rattle.std.proofs.lemmas.Bool.{cases_lt}
use Rattle.std.proofs.lemmas.List.{get_or-map, length-map}
use Rattle.std.proofs.lemmas.List.Sorted.{searchable_from_sorted}
use Rattle.std.proofs.lemmas.Option.{slice_get-get_or}
use Rattle.sx_bytes.specs.Grammar.{may_follow, in_order}
use Rattle.sx_bytes.proofs.Ordered.{and_parts}
use Rattle.sx_ledger.specs.declared.key.Key.{Key}
use Rattle.sx_ledger.specs.declared.offer.Offer.{Offer}
use Rattle.sx_ledger.specs.contracts.key.KeyOrd.TheImpl as derived
use Rattle.sx_ledger.specs.Ledger.{keys}
use Rattle.sx_ledger.specs.Order.{key_of, key_cmp, key_before}
use Rattle.sx_ledger.proofs.KeyOrder.{key_cmp_total, key_cmp_derived, equal_is, equal_from}

-- in order, each key comes before the next
neighbours : (before : Option Key) (xs : List Key) → in_order key_before before xs ≡ true → (k : ℕ) (d : Key)
    → k + 1 < length xs
    → key_before (get_or xs k d) (get_or xs (k + 1) d) ≡ true
neighbours before [] ordered k d lt = absurd (omega arith)
neighbours before (x ∷ []) ordered k d lt = absurd (omega arith)
neighbours before (x ∷ y ∷ xs) ordered zero d lt =
    let rest = and_parts (may_follow key_before before x) (in_order key_before (Some x) (y ∷ xs)) ordered in
    (and_parts (key_before x y) (in_order key_before (Some y) xs) rest.1).0
neighbours before (x ∷ y ∷ xs) ordered (suc k) d lt =
    let rest = and_parts (may_follow key_before before x) (in_order key_before (Some x) (y ∷ xs)) ordered in
    let step : suc k + 1 ≡ suc (k + 1) = omega arith in
    rw step (neighbours (Some x) (y ∷ xs) rest.1 k d (omega arith))

not_back : (o back : Ordering) → o ≡ ordering_reverse back → is_lt o ≡ true → is_lt back ≡ false
not_back Less Greater e lt = refl
not_back Less Less e lt = absurd cc
not_back Less Equal e lt = absurd cc
not_back Equal back e lt = absurd cc
not_back Greater back e lt = absurd cc

differ : Less ≡ Equal → ⊥
differ e = cc

differ_too : Greater ≡ Equal → ⊥
differ_too e = cc

no_offer : Key → Offer
no_offer key = record {
  sell = key.sell;
  buy = key.buy;
  limit = key.limit;
  account = key.account;
  seq = key.seq;
  amount = 0;
}

module _ (offers : List Offer) (up : in_order key_before None (keys offers) ≡ true) (key : Key) where
  key_at : (i : ℕ) (d : Offer) → i < length offers → get_or (keys offers) i key ≡ key_of (get_or offers i d)
  key_at i d lt = get_or-map key_of offers i d key lt

  sorted : IsSortedBy (λ one other. is_lt (key_cmp (key_of one) (key_of other))) offers
  sorted k d le lt =
      let one = key_of (get_or offers k d) in
      let next = key_of (get_or offers (k + 1) d) in
      let step = neighbours None (keys offers) up k key (omega (arith, length-map offers key_of)) in
      let first : k < length offers = omega arith in
      let before : key_before one next ≡ true = sym (λ i. key_before (key_at k d first i) (key_at (k + 1) d lt i))
      ∙ step in
      not_back (key_cmp one next) (key_cmp next one) (key_cmp_total.antisymm one next) before

  comparisons_rise : IsNonDecreasingBy (λ offer. ordering_index (key_cmp (key_of offer) key)) offers
  comparisons_rise = searchable_from_sorted key_cmp_total key_of offers key sorted

  found_at : (at : ℕ) → at < length offers → HoldsAt (λ offer. key_cmp (key_of offer) key ≡ Equal) offers at
      → slice_get (keys offers) at ≡ Some key
  found_at at lt equal =
      let none = no_offer key in
      let here : key_of (get_or offers at none) ≡ key = equal_is (key_of (get_or offers at none)) key (equal none) in
      slice_get-get_or (keys offers) at key (omega (arith, length-map offers key_of))
      ∙ ap (λ (k : Key). Some k) (key_at at none lt ∙ here)

  -- no offer has the key where the search ends at a gap
  absent_at : (at : ℕ) → at ≤ length offers
      → IsBinarySearchResult (λ offer. key_cmp (key_of offer) key) offers (Err at) → Contains (keys offers) key → ⊥
  absent_at at le parted (k, below, here) =
      let none = no_offer key in
      let in_range : k < length offers = omega (arith, length-map offers key_of) in
      let is : key_of (get_or offers k none) ≡ key = sym (key_at k none in_range) ∙ here in
      let equal = equal_from (key_of (get_or offers k none)) key is in
      let parts = parted comparisons_rise in
      elim (cases_lt k at) [
        | inl lt ↦ differ (sym (parts.0 k none (omega arith) lt) ∙ equal)
        | inr ge ↦ differ_too (sym (parts.1 k none ge in_range) ∙ equal)
      ]

  -- a binary search by key ends at the offer, or shows that there is none
  searched : (r : Result ℕ ℕ) → IsSearchInRange r (length offers)
      → IsBinarySearchResult (λ offer. key_cmp (key_of offer) key) offers r
      → IfOk r (λ at. slice_get (keys offers) at ≡ Some key) × IfErr r (λ _. Contains (keys offers) key → ⊥)
  searched (Ok at) in_range equal = (found_at at in_range equal, tt)
  searched (Err at) in_range parted = (tt, absent_at at in_range parted)

  -- the same for the derived comparison
  pub searched_by : (r : Result ℕ ℕ) → IsSearchInRange r (length offers)
      → IsBinarySearchResult (λ offer. derived.ghosts.cmp (key_of offer) key) offers r
      → IfOk r (λ at. slice_get (keys offers) at ≡ Some key) × IfErr r (λ _. Contains (keys offers) key → ⊥)
  searched_by r in_range found =
      let same : derived.ghosts.cmp ≡ key_cmp = λ i one other. key_cmp_derived one other i in
      searched r in_range (subst (λ (R : Key → Key → Ordering). IsBinarySearchResult (λ offer. R (key_of offer) key)
      offers r) same found)
