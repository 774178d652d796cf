-- What one look at an offer tells of those before and after it, and what a search between two places finds.
use Rattle.std.proofs.Common.{◌≡◌, ℕ, zero, suc, ◌+◌, ◌-◌, ◌<◌, ◌≤◌, Bool, true, false, List, [], ◌∷◌, length, get_or, take, drop}
use Rattle.std.proofs.Common.{Option, Some, None, Result, Ok, Err, IfOk, IfErr, inl, inr, refl, sym, ap, subst, ◌∙◌, arith}
use Rattle.std.specs.Prelude.{not, slice_get, Contains}
use Rattle.std.specs.Bool.{OnTrue}
use Rattle.std.specs.List.Sorted.{IsSearchInRange, IsBinarySearchResult}
use Rattle.std.specs.Option.{option_map}
use Rattle.std.proofs.lemmas.Bool.{and_from, cases_lt}
use Rattle.std.proofs.lemmas.List.{get_or-take, get_or-drop, length-map, length-take, length-drop, take-map, drop-map}
use Rattle.std.proofs.lemmas.Option.{get_or_from_slice_get, same_Some, slice_get-get_or, slice_get-map, slice_get_within}
use Rattle.sx_bytes.specs.Grammar.{may_follow, in_order}
use Rattle.sx_bytes.proofs.Ordered.{and_parts}
use Rattle.sx_ledger.specs.declared.key.Key.{Key}
use Rattle.sx_ledger.specs.declared.offer.Offer.{Offer}
use Rattle.sx_ledger.specs.contracts.key.KeyOrd.TheImpl as derived
use Rattle.sx_ledger.specs.Ledger.{keys}
use Rattle.sx_ledger.specs.Order.{key_of, key_before}
use Rattle.sx_ledger.proofs.KeyOrder.{before_both, before_differs, same_key_from}
use Rattle.sx_ledger.proofs.SearchByKey.{searched_by}

-- ---- parts of a list in order are in order

drop_ordered : (n : ℕ) (before : Option Key) (xs : List Key) → in_order key_before before xs ≡ true
    → in_order key_before None (drop n xs) ≡ true
drop_ordered zero before [] ordered = refl
drop_ordered zero before (x ∷ xs) ordered =
    (and_parts (may_follow key_before before x) (in_order key_before (Some x) xs) ordered).1
drop_ordered (suc n) before [] ordered = refl
drop_ordered (suc n) before (x ∷ xs) ordered =
    drop_ordered n (Some x) xs
    (and_parts (may_follow key_before before x) (in_order key_before (Some x) xs) ordered).1

take_ordered : (n : ℕ) (before : Option Key) (xs : List Key) → in_order key_before before xs ≡ true
    → in_order key_before before (take n xs) ≡ true
take_ordered zero before xs ordered = refl
take_ordered (suc n) before [] ordered = refl
take_ordered (suc n) before (x ∷ xs) ordered =
    let both = and_parts (may_follow key_before before x) (in_order key_before (Some x) xs) ordered in
    and_from (may_follow key_before before x) (in_order key_before (Some x) (take n xs)) both.0
    (take_ordered n (Some x) xs both.1)

-- ---- each key comes before all later ones

ahead : (first : Key) (xs : List Key) → in_order key_before (Some first) xs ≡ true → (j : ℕ) (y : Key)
    → slice_get xs j ≡ Some y → key_before first y ≡ true
ahead first [] ordered j y at = absurd cc
ahead first (x ∷ xs) ordered zero y at =
    subst (λ (other : Key). key_before first other ≡ true) (same_Some x y at)
    (and_parts (key_before first x) (in_order key_before (Some x) xs) ordered).0
ahead first (x ∷ xs) ordered (suc j) y at =
    let both = and_parts (key_before first x) (in_order key_before (Some x) xs) ordered in
    before_both first x y both.0 (ahead x xs both.1 j y at)

rises : (before : Option Key) (xs : List Key) → in_order key_before before xs ≡ true → (i j : ℕ) (x y : Key) → i < j
    → slice_get xs i ≡ Some x → slice_get xs j ≡ Some y → key_before x y ≡ true
rises before [] ordered i j x y lt first second = absurd cc
rises before (z ∷ xs) ordered i zero x y lt first second = absurd (omega arith)
rises before (z ∷ xs) ordered zero (suc j) x y lt first second =
    let both = and_parts (may_follow key_before before z) (in_order key_before (Some z) xs) ordered in
    subst (λ (other : Key). key_before other y ≡ true) (same_Some z x first) (ahead z xs both.1 j y second)
rises before (z ∷ xs) ordered (suc i) (suc j) x y lt first second =
    let both = and_parts (may_follow key_before before z) (in_order key_before (Some z) xs) ordered in
    rises (Some z) xs both.1 i j x y (omega arith) first second

not_itself : (x : Key) → key_before x x ≡ true → ⊥
not_itself x before = let other = before_differs x x before in let same = same_key_from x x refl in cc

key_there : (offers : List Offer) (place : ℕ) (offer : Offer) → slice_get offers place ≡ Some offer
    → slice_get (keys offers) place ≡ Some (key_of offer)
key_there offers place offer at = slice_get-map key_of offers place ∙ ap (option_map key_of) at

module _ (offers : List Offer) (up : in_order key_before None (keys offers) ≡ true) (key : Key) where
  -- ---- what one look tells

  -- where an offer stands no later than the key, no offer before it has the key
  none_before : (begin : ℕ) (offer : Offer) → slice_get offers begin ≡ Some offer
      → key_before key (key_of offer) ≡ false → (k : ℕ) → k < begin → slice_get (keys offers) k ≡ Some key → ⊥
  none_before begin offer at no_later k lt here =
      let later = rises None (keys offers) up k begin key (key_of offer) lt here (key_there offers begin offer at) in cc

  -- where an offer stands after the key, it has not the key, nor has any after it
  none_from : (end : ℕ) (offer : Offer) → slice_get offers end ≡ Some offer
      → key_before key (key_of offer) ≡ true → (k : ℕ) → end ≤ k → slice_get (keys offers) k ≡ Some key → ⊥
  none_from end offer at before k le here =
      let there = key_there offers end offer at in
      elim (cases_lt end k) [
        | inl lt ↦ not_itself key (before_both key (key_of offer) key before
            (rises None (keys offers) up end k (key_of offer) key lt there here))
        | inr ge ↦ let same : k ≡ end = omega arith in
            let is : key_of offer ≡ key = same_Some (key_of offer) key
            (sym there ∙ ap (slice_get (keys offers)) (sym same) ∙ here) in
            not_itself key (subst (λ (other : Key). key_before key other ≡ true) is before)
      ]

  -- the same of the answers to the looks
  pub look_before : (begin : ℕ) (offer : Offer) (mark : Key) (later : Bool) → slice_get offers begin ≡ Some offer
      → mark ≡ key_of offer → later ≡ key_before key mark
      → OnTrue (not later) ((k : ℕ) → k < begin → slice_get (keys offers) k ≡ Some key → ⊥)
  look_before begin offer mark true at same is = tt
  look_before begin offer mark false at same is =
      none_before begin offer at (ap (key_before key) (sym same) ∙ sym is)

  pub look_from : (end : ℕ) (offer : Offer) (mark : Key) (later : Bool) → slice_get offers end ≡ Some offer
      → mark ≡ key_of offer → later ≡ key_before key mark
      → OnTrue later ((k : ℕ) → end ≤ k → slice_get (keys offers) k ≡ Some key → ⊥)
  look_from end offer mark false at same is = tt
  look_from end offer mark true at same is = none_from end offer at (ap (key_before key) (sym same) ∙ sym is)

  -- past the last offer there is none
  pub none_past : (end : ℕ) → length offers ≤ end → (k : ℕ) → end ≤ k → slice_get (keys offers) k ≡ Some key → ⊥
  none_past end past k le here =
      let within = slice_get_within (keys offers) k key here in omega (arith, length-map offers key_of)

  -- ---- a search between two places

  part_is : (p n : ℕ) → take n (drop p (keys offers)) ≡ keys (take n (drop p offers))
  part_is p n = ap (take n) (drop-map key_of p offers) ∙ take-map key_of n (drop p offers)

  part_ordered : (p n : ℕ) → in_order key_before None (keys (take n (drop p offers))) ≡ true
  part_ordered p n =
      subst (λ (xs : List Key). in_order key_before None xs ≡ true) (part_is p n)
      (take_ordered n None (drop p (keys offers)) (drop_ordered p None (keys offers) up))

  found_there : (p n at : ℕ) → slice_get (keys (take n (drop p offers))) at ≡ Some key
      → slice_get (keys offers) (p + at) ≡ Some key
  found_there p n at here =
      let part = take n (drop p (keys offers)) in
      let same : slice_get part at ≡ Some key = ap (λ (xs : List Key). slice_get xs at) (part_is p n) ∙ here in
      let within : at < length part = slice_get_within part at key same in
      let long = length-take n (drop p (keys offers)) in
      let left = length-drop p (keys offers) in
      let is : get_or (keys offers) (p + at) key ≡ key = sym (get_or-drop p (keys offers) at key)
      ∙ sym (get_or-take n (drop p (keys offers)) at key (omega arith))
      ∙ get_or_from_slice_get part at key key same in
      slice_get-get_or (keys offers) (p + at) key (omega arith) ∙ ap (λ (x : Key). Some x) is

  held_there : (p q k : ℕ) → p ≤ k → k < q → slice_get (keys offers) k ≡ Some key
      → Contains (keys (take (q - p) (drop p offers))) key
  held_there p q k from below here =
      let part = take (q - p) (drop p (keys offers)) in
      let within : k < length (keys offers) = slice_get_within (keys offers) k key here in
      let long = length-take (q - p) (drop p (keys offers)) in
      let left = length-drop p (keys offers) in
      let same : p + (k - p) ≡ k = omega arith in
      let lt : k - p < length part = omega arith in
      let is : get_or part (k - p) key ≡ key =
      get_or-take (q - p) (drop p (keys offers)) (k - p) key (omega arith)
      ∙ get_or-drop p (keys offers) (k - p) key
      ∙ ap (λ (i : ℕ). get_or (keys offers) i key) same
      ∙ get_or_from_slice_get (keys offers) k key key here in
      let there : Contains part key = (k - p, lt, is) in
      subst (λ (xs : List Key). Contains xs key) (part_is p (q - p)) there

  -- a binary search between two places ends at the offer, or shows that none there has the key
  pub searched_between : (p q : ℕ) (r : Result ℕ ℕ) → IsSearchInRange r (length (take (q - p) (drop p offers)))
      → IsBinarySearchResult (λ offer. derived.ghosts.cmp (key_of offer) key) (take (q - p) (drop p offers)) r
      → IfOk r (λ at. slice_get (keys offers) (p + at) ≡ Some key)
      × IfErr r (λ _. (k : ℕ) → p ≤ k → k < q → slice_get (keys offers) k ≡ Some key → ⊥)
  searched_between p q (Ok at) in_range found =
      let both = searched_by (take (q - p) (drop p offers)) (part_ordered p (q - p)) key (Ok at) in_range found in
      (found_there p (q - p) at both.0, tt)
  searched_between p q (Err at) in_range found =
      let both = searched_by (take (q - p) (drop p offers)) (part_ordered p (q - p)) key (Err at) in_range found in
      (tt, λ k from below here. both.1 (held_there p q k from below here))
