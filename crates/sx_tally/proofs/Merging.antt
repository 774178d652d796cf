-- Offers that are made, merged with those that are kept: the elements and the order of the whole.
use Rattle.std.proofs.Common.{◌≡◌, zero, suc, ◌+◌, Bool, true, false, not, List, [], ◌∷◌, ◌++◌, drop, take}
use Rattle.std.proofs.Common.{Option, Some, None, inl, inr, refl, ap, subst, sym, ◌∙◌}
use Rattle.std.proofs.Common.{append_assoc, arith}
use Rattle.std.specs.List.Sorted.{IsPermutation, IsSortedByKey}
use Rattle.std.proofs.lemmas.Bool.{and_from, and_parts, cases_Bool, false_from_ne_true, not-true}
use Rattle.std.proofs.lemmas.List.{take-append-drop}
use Rattle.std.proofs.lemmas.List.Sorted.{IsPermutation-append_comm, IsPermutation-append_right}
use Rattle.std.proofs.lemmas.List.Sorted.{IsPermutation-cons, IsPermutation-middle, IsPermutation-trans}
use Rattle.sx_tally.specs.Merging.{count_before, merged}
use Rattle.sx_bytes.specs.Grammar.{in_order, may_follow}
use Rattle.sx_ledger.specs.declared.key.Key.{Key}
use Rattle.sx_ledger.specs.declared.offer.Offer.{Offer}
use Rattle.sx_ledger.specs.Ledger.{keys}
use Rattle.sx_ledger.specs.Order.{key_before, key_cmp, key_of, offer_before}
use Rattle.sx_ledger.proofs.KeyOrder.{before_both, before_differs, same_key_from}

-- ---- the same elements

pub merged_moves : (kept made : List Offer) → IsPermutation (made ++ kept) (merged kept made)
merged_moves [] made = IsPermutation-append_comm made []
merged_moves (offer ∷ kept) made =
    let front = take (count_before offer made) made in
    let left = drop (count_before offer made) made in
    let rest = merged kept left in
    let whole : front ++ (left ++ offer ∷ kept) ≡ made ++ offer ∷ kept =
    sym (append_assoc front left (offer ∷ kept))
    ∙ ap (λ (xs : List Offer). xs ++ offer ∷ kept) (take-append-drop (count_before offer made) made) in
    subst (λ (xs : List Offer). IsPermutation xs (front ++ offer ∷ rest)) whole
    (IsPermutation-append_right front (left ++ offer ∷ kept) (offer ∷ rest)
    (IsPermutation-trans (left ++ offer ∷ kept) (offer ∷ (left ++ kept)) (offer ∷ rest)
    (IsPermutation-middle left offer kept)
    (IsPermutation-cons offer (left ++ kept) rest (merged_moves kept left))))

-- ---- in order

-- a key doesn't stand behind another
abbrev not_behind : Key → Key → Bool
not_behind one other = not (key_before other one)

-- no key stands behind the next one
abbrev AreRising : Option Key → List Offer → Type 0
AreRising previous offers = in_order not_behind previous (keys offers) ≡ true

not_after : (one other : Key) → key_before one other ≡ true → key_before other one ≡ false
not_after one other before = false_from_ne_true (key_before other one) (λ after.
    let differ = before_differs one one (before_both one other one before after) in
    let self = same_key_from one one refl in
    absurd cc)

may_too : (previous : Option Key) (key : Key) → may_follow key_before previous key ≡ true
    → may_follow not_behind previous key ≡ true
may_too None key follows = refl
may_too (Some before) key follows = ap not (not_after before key follows)

-- the made offers that stand before a kept one, then that one, then a rest that is in order behind it
front_in_order : (previous : Option Key) (offer : Offer) (made : List Offer) (rest : List Offer → List Offer)
    → may_follow key_before previous (key_of offer) ≡ true → AreRising previous made
    → ((left : List Offer) → AreRising (Some (key_of offer)) left → AreRising (Some (key_of offer)) (rest left))
    → AreRising previous
    (take (count_before offer made) made ++ offer ∷ rest (drop (count_before offer made) made))
front_in_order previous offer [] rest follows rising goes_on =
    and_from _ _ (may_too previous (key_of offer) follows) (goes_on [] refl)
front_in_order previous offer (one ∷ made) rest follows rising goes_on =
    let both = and_parts (may_follow not_behind previous (key_of one)) (in_order not_behind (Some (key_of one)) (keys made))
    rising in
    let more : 1 + count_before offer made ≡ suc (count_before offer made) = omega arith in
    elim (cases_Bool (offer_before one offer)) [
      | inl before ↦ rw (before, more)
          (and_from _ _ both.0 (front_in_order (Some (key_of one)) offer made rest before both.1 goes_on))
      | inr behind ↦ rw behind
          (and_from _ _ (may_too previous (key_of offer) follows)
          (goes_on (one ∷ made) (and_from _ _ (ap not behind) both.1)))
    ]

merged_in_order : (previous : Option Key) (kept made : List Offer) → in_order key_before previous (keys kept) ≡ true
    → AreRising previous made → AreRising previous (merged kept made)
merged_in_order previous [] made ordered rising = rising
merged_in_order previous (offer ∷ kept) made ordered rising =
    let both = and_parts (may_follow key_before previous (key_of offer))
    (in_order key_before (Some (key_of offer)) (keys kept)) ordered in
    front_in_order previous offer made (merged kept) both.0 rising
    (λ left left_rising. merged_in_order (Some (key_of offer)) kept left both.1 left_rising)

-- ---- sorted by key

rising_after : (offer : Offer) (offers : List Offer) → IsSortedByKey key_of key_cmp (offer ∷ offers)
    → AreRising (Some (key_of offer)) offers
rising_after offer [] sorted = refl
rising_after offer (next ∷ offers) sorted =
    and_from _ _ (ap not (sorted 0 offer (omega arith) (omega arith)))
    (rising_after next offers (λ k d low high.
    let more : suc k + 1 ≡ suc (k + 1) = omega arith in
    rw more at (sorted (suc k) d (omega arith) (omega arith))))

rising_from_sorted : (offers : List Offer) → IsSortedByKey key_of key_cmp offers → AreRising None offers
rising_from_sorted [] sorted = refl
rising_from_sorted (offer ∷ offers) sorted = rising_after offer offers sorted

sorted_from_rising : (previous : Option Key) (offers : List Offer) → AreRising previous offers
    → IsSortedByKey key_of key_cmp offers
sorted_from_rising previous [] rising k d low high = absurd (omega arith)
sorted_from_rising previous (offer ∷ []) rising k d low high = absurd (omega arith)
sorted_from_rising previous (offer ∷ next ∷ offers) rising zero d low high =
    let both = and_parts (may_follow not_behind previous (key_of offer))
    (in_order not_behind (Some (key_of offer)) (keys (next ∷ offers))) rising in
    not-true (key_before (key_of next) (key_of offer))
    (and_parts (not_behind (key_of offer) (key_of next)) (in_order not_behind (Some (key_of next)) (keys offers)) both.1).0
sorted_from_rising previous (offer ∷ next ∷ offers) rising (suc k) d low high =
    let both = and_parts (may_follow not_behind previous (key_of offer))
    (in_order not_behind (Some (key_of offer)) (keys (next ∷ offers))) rising in
    let more : suc k + 1 ≡ suc (k + 1) = omega arith in
    rw more (sorted_from_rising (Some (key_of offer)) (next ∷ offers) both.1 k d (omega arith) (omega arith))

pub merged_sorted : (kept made : List Offer) → in_order key_before None (keys kept) ≡ true
    → IsSortedByKey key_of key_cmp made → IsSortedByKey key_of key_cmp (merged kept made)
merged_sorted kept made ordered sorted =
    sorted_from_rising None (merged kept made) (merged_in_order None kept made ordered (rising_from_sorted made sorted))
