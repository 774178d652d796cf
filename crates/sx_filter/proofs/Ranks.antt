-- In a list in order, those that are the same stand side by side.
use Rattle.std.proofs.Common.{◌≡◌, ℕ, zero, suc, ◌+◌, ◌-◌, ◌<◌, ◌≤◌, Bool, true, false, cond, List, [], ◌∷◌, length}
use Rattle.std.proofs.Common.{get_or, Some, inl, inr, refl, sym, ap, subst, ◌∙◌, arith}
use Rattle.std.specs.Prelude.{nat_le, slice_get, ◌==◌}
use Rattle.std.specs.Cmp.{IsTotalOrder}
use Rattle.std.specs.declared.cmp.Ordering.{Ordering}
use Rattle.std.specs.declared.cmp.Ordering.TheVariants.{Less, Equal, Greater}
use Rattle.std.specs.List.{count_by}
use Rattle.std.specs.List.Sorted.{IsNonDecreasingBy, IsPartitionPoint, IsPartitionedBy, IsPermutation, IsSorted}
use Rattle.std.specs.Ordering.{is_eq, is_lt, ordering_index}
use Rattle.std.proofs.lemmas.Bool.{cases_Bool, cases_eq, cases_order, eq-eqb, le-leb, lt-leb, ne_eqb}
use Rattle.std.proofs.lemmas.List.Sorted.{searchable_from_sorted, sum_by-IsPermutation}
use Rattle.std.proofs.lemmas.Option.{get_or_from_slice_get, slice_get-get_or, slice_get_within}
use Rattle.sx_filter.specs.Alone.{is_twice}
use Rattle.sx_filter.proofs.Counts.{count_is, times}
use Rattle.sx_outcome.proofs.Totals.{two_places}

pub not_both : {A : Type 0} → false ≡ true → A
not_both e = absurd cc

-- ---- answers of a comparison as ranks

pub equal_rank : (o : Ordering) → is_eq o ≡ (ordering_index o == 1)
equal_rank Less = refl
equal_rank Equal = refl
equal_rank Greater = refl

pub low_rank : (o : Ordering) → is_lt o ≡ true → ordering_index o < 1
low_rank Less e = omega arith
low_rank Equal e = absurd cc
low_rank Greater e = absurd cc

pub high_rank : (o : Ordering) → is_lt o ≡ false → 1 ≤ ordering_index o
high_rank Less e = absurd cc
high_rank Equal e = omega arith
high_rank Greater e = omega arith

-- ---- how often a test holds

never_at : {X : Type 0} (test : X → Bool) (xs : List X)
    → ((k : ℕ) (x : X) → slice_get xs k ≡ Some x → test x ≡ false) → times test xs ≡ 0
never_at test [] fails = refl
never_at test (x ∷ xs) fails =
    rw (fails 0 x refl) (omega (arith, never_at test xs (λ k y at. fails (suc k) y at)))

one_at_most : {X : Type 0} (test : X → Bool) (xs : List X) (p : ℕ)
    → ((k : ℕ) (x : X) → slice_get xs k ≡ Some x → (k ≡ p → ⊥) → test x ≡ false) → times test xs ≤ 1
one_at_most test [] p fails = omega arith
one_at_most test (x ∷ xs) zero fails =
    let none = never_at test xs (λ k y at. fails (suc k) y at (λ e. absurd (omega (arith, e)))) in
    elim (cases_Bool (test x)) [ inl e ↦ rw e (omega (arith, none)) | inr e ↦ rw e (omega (arith, none)) ]
one_at_most test (x ∷ xs) (suc p) fails =
    let rest = one_at_most test xs p (λ k y at other. fails (suc k) y at (λ e. other (omega (arith, e)))) in
    rw (fails 0 x refl (λ e. absurd (omega (arith, e)))) (omega (arith, rest))

-- ---- a list in which ranks rise, and a test that holds at the rank 1

module _ {X : Type 0} (rank : X → ℕ) (test : X → Bool) (same : (x : X) → test x ≡ (rank x == 1)) (xs : List X)
    (rises : IsNonDecreasingBy rank xs) where
  yes : (x : X) → rank x ≡ 1 → test x ≡ true
  yes x e = same x ∙ eq-eqb (rank x) 1 e

  no : (x : X) → (rank x ≡ 1 → ⊥) → test x ≡ false
  no x other = same x ∙ ne_eqb (rank x) 1 other

  rank_at : (i j : ℕ) (x y : X) → i ≤ j → slice_get xs i ≡ Some x → slice_get xs j ≡ Some y → rank x ≤ rank y
  rank_at i j x y le at there =
      let up : rank (get_or xs i x) ≤ rank (get_or xs j x) = rises i j x le (slice_get_within xs j y there) in
      let one = ap rank (get_or_from_slice_get xs i x x at) in
      let other = ap rank (get_or_from_slice_get xs j y x there) in
      omega (arith, up, one, other)

  pub two_beside : (i : ℕ) (x y : X) → slice_get xs i ≡ Some x → slice_get xs (i + 1) ≡ Some y → rank x ≡ 1
      → rank y ≡ 1 → is_twice test xs ≡ true
  two_beside i x y at next one two =
      let f : X → ℕ = λ z. cond (test z) 1 0 in
      let sum = two_places f xs i (i + 1) x y (omega arith) at next in
      let count : ℕ = 1 in
      let here : f x ≡ count = rw (yes x one) refl in
      let there : f y ≡ count = rw (yes y two) refl in
      le-leb 2 (count_by test xs) (omega (arith, sum, here, there, count_is test xs))

  one_alone : (p : ℕ) → ((k : ℕ) (x : X) → slice_get xs k ≡ Some x → (k ≡ p → ⊥) → rank x ≡ 1 → ⊥)
      → is_twice test xs ≡ false
  one_alone p others =
      let few = one_at_most test xs p (λ k x at other. no x (others k x at other)) in
      lt-leb 2 (count_by test xs) (omega (arith, few, count_is test xs))

  -- one at a place, of which neither neighbour is the same
  pub none_beside : (p : ℕ) (x : X) → slice_get xs p ≡ Some x → rank x ≡ 1
      → ((y : X) → 0 < p → slice_get xs (p - 1) ≡ Some y → rank y ≡ 1 → ⊥)
      → ((y : X) → slice_get xs (p + 1) ≡ Some y → rank y ≡ 1 → ⊥) → is_twice test xs ≡ false
  none_beside p x at one before after =
      let inside = slice_get_within xs p x at in
      one_alone p (λ k y there other is. elim (cases_order k p) [
        | inl e ↦ other e
        | inr (inl lt) ↦
            let z = get_or xs (p - 1) x in
            let stands : slice_get xs (p - 1) ≡ Some z = slice_get-get_or xs (p - 1) x (omega (arith, inside)) in
            let low = rank_at k (p - 1) y z (omega (arith, lt)) there stands in
            let high = rank_at (p - 1) p z x (omega arith) stands at in
            before z (omega (arith, lt)) stands (omega (arith, low, high, is, one))
        | inr (inr gt) ↦
            let z = get_or xs (p + 1) x in
            let far = slice_get_within xs k y there in
            let stands : slice_get xs (p + 1) ≡ Some z = slice_get-get_or xs (p + 1) x (omega (arith, far, gt)) in
            let low = rank_at p (p + 1) x z (omega arith) at stands in
            let high = rank_at (p + 1) k z y (omega (arith, gt)) stands there in
            after z stands (omega (arith, low, high, is, one))
      ])

  -- the first place from which on no rank is below 1
  module _ (first : ℕ) (below : (k : ℕ) (x : X) → slice_get xs k ≡ Some x → k < first → rank x < 1)
      (above : (k : ℕ) (x : X) → slice_get xs k ≡ Some x → first ≤ k → 1 ≤ rank x) where
    pub last_first : length xs ≤ first + 1 → is_twice test xs ≡ false
    last_first short =
        one_alone first (λ k y there other is. elim (cases_order k first) [
          | inl e ↦ other e
          | inr (inl lt) ↦ let low = below k y there lt in absurd (omega (arith, low, is))
          | inr (inr gt) ↦ let far = slice_get_within xs k y there in absurd (omega (arith, far, gt, short))
        ])

    pub after_first : (y : X) → slice_get xs (first + 1) ≡ Some y → is_twice test xs ≡ test y
    after_first y next = elim (cases_eq (rank y) 1) [
      | inl one ↦
          let inside = slice_get_within xs (first + 1) y next in
          let x = get_or xs first y in
          let at : slice_get xs first ≡ Some x = slice_get-get_or xs first y (omega (arith, inside)) in
          let low = above first x at (omega arith) in
          let high = rank_at first (first + 1) x y (omega arith) at next in
          two_beside first x y at next (omega (arith, low, high, one)) one ∙ sym (yes y one)
      | inr other ↦
          one_alone first (λ k z there differ is. elim (cases_order k first) [
            | inl e ↦ differ e
            | inr (inl lt) ↦ let low = below k z there lt in absurd (omega (arith, low, is))
            | inr (inr gt) ↦
                let high = rank_at (first + 1) k y z (omega (arith, gt)) next there in
                other (omega (arith, high, is, above (first + 1) y next (omega arith)))
          ])
          ∙ sym (no y other)
    ]

-- ---- keys that are sorted

low_is : (o : Ordering) → ordering_index o < 1 → is_lt o ≡ true
low_is Less lt = refl
low_is Equal lt = absurd (omega (arith, lt))
low_is Greater lt = absurd (omega (arith, lt))

module _ {K : Type 0} (cmp : K → K → Ordering) (total : IsTotalOrder cmp) (key : K) (keys : List K)
    (sorted : IsSorted cmp keys) where
  abbrev rank : K → ℕ
  rank k = ordering_index (cmp k key)

  abbrev same_key : K → Bool
  same_key k = is_eq (cmp k key)

  rising : IsNonDecreasingBy rank keys
  rising = searchable_from_sorted total (λ (k : K). k) keys key sorted

  pub parted : IsPartitionedBy (λ k. is_lt (cmp k key)) keys
  parted i j d le lt yes =
      let up = rising i j d le lt in
      let low = low_rank (cmp (get_or keys j d) key) yes in
      low_is (cmp (get_or keys i d) key) (omega (arith, up, low))

  pub moved_twice : (list : List K) → IsPermutation list keys → is_twice same_key keys ≡ is_twice same_key list
  moved_twice list moves = ap (nat_le 2) (sum_by-IsPermutation (λ k. cond (same_key k) 1 0) list keys moves)

  module _ (first : ℕ)
      (point : IsPartitionPoint (λ k. is_lt (cmp k key) ≡ true) (λ k. is_lt (cmp k key) ≡ false) keys first) where
    lower : (k : ℕ) (x : K) → slice_get keys k ≡ Some x → k < first → rank x < 1
    lower k x at lt =
        low_rank (cmp x key) (subst (λ (y : K). is_lt (cmp y key) ≡ true) (get_or_from_slice_get keys k x x at)
        (point.0 k x (omega arith) lt))

    upper : (k : ℕ) (x : K) → slice_get keys k ≡ Some x → first ≤ k → 1 ≤ rank x
    upper k x at le =
        high_rank (cmp x key) (subst (λ (y : K). is_lt (cmp y key) ≡ false) (get_or_from_slice_get keys k x x at)
        (point.1 k x le (slice_get_within keys k x at)))

    pub at_end : length keys ≤ first + 1 → is_twice same_key keys ≡ false
    at_end = last_first rank same_key (λ k. equal_rank (cmp k key)) keys rising first lower upper

    pub after : (y : K) → slice_get keys (first + 1) ≡ Some y → is_twice same_key keys ≡ is_eq (cmp y key)
    after = after_first rank same_key (λ k. equal_rank (cmp k key)) keys rising first lower upper
