-- Offers in order stand pair by pair.
use Rattle.std.proofs.Common.{◌≡◌, ℕ, zero, suc, ◌+◌, ◌-◌, ◌<◌, ◌≤◌, ◌⊎◌, Bool, true, false, eqb, ◌&&◌, List, []}
use Rattle.std.proofs.Common.{◌∷◌, ◌++◌, length, get_or, take, drop, Some, refl, sym, ap, ap₂, subst, ◌∙◌, inl}
use Rattle.std.proofs.Common.{inr, arith}
use Rattle.std.specs.Prelude.{slice_get, All, IfSome}
use Rattle.std.specs.List.{AllByRecursion, AllWithin}
use Rattle.std.specs.List.Sorted.{IsPartitionedBy}
use Rattle.std.specs.declared.cmp.Ordering.TheVariants.{Equal, Greater}
use Rattle.std.specs.Ordering.{is_lt, nat_cmp}
use Rattle.std.specs.Cmp.{nat_cmp_is}
use Rattle.std.specs.Cmp.Lexicographic.{slice_cmp}
use Rattle.std.proofs.lemmas.Bool.{cases_Bool, cases_lt, and_from, and_parts, eq-eqb, eqb-true}
use Rattle.std.proofs.lemmas.List.{append-nil, get_or-drop, get_or-take, length-drop, length-take-le}
use Rattle.std.proofs.lemmas.List.Elements.{AllWithin-from_all, All-from_all_within, All-from_recursion, filter-append}
use Rattle.std.proofs.lemmas.Option.{none-some, same_Some, slice_get-get_or, slice_get_cases}
use Rattle.sx_ledger.specs.declared.offer.Offer.{Offer}
use Rattle.sx_ledger.specs.Bounds.{pair_of}
use Rattle.sx_ledger.specs.Order.{key_of, offer_before}
use Rattle.sx_ledger.proofs.OfferOrder.{Precedes, Rising, keeps_all}

-- ---- two offers, one before the other

same_is : (x : ℕ) → nat_cmp x x ≡ Equal
same_is x = sym (nat_cmp_is x x Equal refl)

more_is : (x y : ℕ) → y < x → nat_cmp x y ≡ Greater
more_is x y lt = sym (nat_cmp_is x y Greater lt)

not_by_first : (x y : ℕ) (xs ys : List ℕ) → y < x → is_lt (slice_cmp nat_cmp (x ∷ xs) (y ∷ ys)) ≡ false
not_by_first x y xs ys lt = rw (more_is x y lt) refl

not_by_second : (s x y : ℕ) (xs ys : List ℕ) → y < x → is_lt (slice_cmp nat_cmp (s ∷ x ∷ xs) (s ∷ y ∷ ys)) ≡ false
not_by_second s x y xs ys lt = rw (same_is s, more_is x y lt) refl

-- the pair of an offer is that of another one or a later one
abbrev IsUpTo : Offer → Offer → Type 0
IsUpTo x o = (x.sell < o.sell) ⊎ ((x.sell ≡ o.sell) × (x.buy ≤ o.buy))

up_to : (x o : Offer) → offer_before x o ≡ true → IsUpTo x o
up_to x o before =
    elim (cases_lt x.sell o.sell) [
      | inl less ↦ inl less
      | inr more ↦
          elim (cases_lt o.sell x.sell) [
            | inl above ↦
                let after : offer_before x o ≡ false =
                not_by_first x.sell o.sell (x.buy ∷ x.limit ∷ x.account.0 ∷ x.seq ∷ [])
                (o.buy ∷ o.limit ∷ o.account.0 ∷ o.seq ∷ []) above in
                absurd cc
            | inr equal ↦
                let sell : x.sell ≡ o.sell = omega arith in
                elim (cases_lt o.buy x.buy) [
                  | inl above ↦
                      let after : offer_before x o ≡ false =
                      rw sell (not_by_second o.sell x.buy o.buy (x.limit ∷ x.account.0 ∷ x.seq ∷ [])
                      (o.limit ∷ o.account.0 ∷ o.seq ∷ []) above) in
                      absurd cc
                  | inr most ↦ inr (sell, most)
                ]
          ]
    ]

-- ---- the pair of the first of some offers

module _ (sell buy : ℕ) where
  abbrev pub of_pair : Offer → Bool
  of_pair o = eqb o.sell sell && eqb o.buy buy

  pub of_itself : (o : Offer) → o.sell ≡ sell → o.buy ≡ buy → of_pair o ≡ true
  of_itself o s b = and_from _ _ (eq-eqb o.sell sell s) (eq-eqb o.buy buy b)

  -- once a pair has passed, it does not come again
  passed : (first x o : Offer) → first.sell ≡ sell → first.buy ≡ buy → IsUpTo first x → IsUpTo x o
      → of_pair x ≡ false → of_pair o ≡ false
  passed first x o s b fx xo other =
      elim (cases_Bool (of_pair o)) [
        | inl same ↦
            let p = and_parts (eqb o.sell sell) (eqb o.buy buy) same in
            let os = eqb-true o.sell sell p.0 in
            let ob = eqb-true o.buy buy p.1 in
            let both : (x.sell ≡ sell) × (x.buy ≡ buy) =
            elim fx [
              | inl less ↦ elim xo [ inl rises ↦ absurd (omega arith) | inr stays ↦ absurd (omega (arith, stays.0)) ]
              | inr keeps ↦ elim xo [
                | inl rises ↦ absurd (omega (arith, keeps.0))
                | inr stays ↦ (omega (arith, keeps.0), omega (arith, keeps.1, stays.1))
              ]
            ] in
            let again = of_itself x both.0 both.1 in
            absurd cc
        | inr none ↦ none
      ]

  all_passed : (first x : Offer) (os : List Offer) → first.sell ≡ sell → first.buy ≡ buy → IsUpTo first x
      → of_pair x ≡ false → Precedes (key_of x) os → AllByRecursion (λ o. of_pair o ≡ false) os
  all_passed first x [] s b fx other all = tt
  all_passed first x (o ∷ os) s b fx other all =
      (passed first x o s b fx (up_to x o all.0) other, all_passed first x os s b fx other all.1)

  after_first : (first : Offer) (os : List Offer) (j : ℕ) → first.sell ≡ sell → first.buy ≡ buy
      → Precedes (key_of first) os → Rising os → IfSome (slice_get os j) (λ o. of_pair o ≡ false)
      → AllByRecursion (λ o. of_pair o ≡ false) (drop j os)
  after_first first [] zero s b all rising next = tt
  after_first first [] (suc j) s b all rising next = tt
  after_first first (x ∷ os) zero s b all rising next =
      (next, all_passed first x os s b (up_to first x all.0) next rising.0)
  after_first first (x ∷ os) (suc j) s b all rising next = after_first first os j s b all.1 rising.1 next

  -- from the first place on where another pair stands, none is of this one
  pub none_after : (first : Offer) (os : List Offer) (k : ℕ) → first.sell ≡ sell → first.buy ≡ buy
      → slice_get os 0 ≡ Some first → Rising os → IfSome (slice_get os k) (λ o. of_pair o ≡ false)
      → AllByRecursion (λ o. of_pair o ≡ false) (drop k os)
  none_after first [] k s b there rising next = absurd (none-some first there)
  none_after first (x ∷ os) zero s b there rising next =
      let same : x ≡ first = same_Some x first there in
      let own = of_itself x (ap (λ (o : Offer). o.sell) same ∙ s) (ap (λ (o : Offer). o.buy) same ∙ b) in absurd cc
  none_after first (x ∷ os) (suc j) s b there rising next =
      let same : x ≡ first = same_Some x first there in
      after_first x os j (ap (λ (o : Offer). o.sell) same ∙ s) (ap (λ (o : Offer). o.buy) same ∙ b) rising.0
      rising.1 next

  -- none of this pair comes after one of another pair
  pub parted : (first : Offer) (os : List Offer) → first.sell ≡ sell → first.buy ≡ buy
      → slice_get os 0 ≡ Some first → Rising os → IsPartitionedBy of_pair os
  parted first os s b there rising = λ i j d low high own.
      elim (cases_Bool (of_pair (get_or os i d))) [
        | inl same ↦ same
        | inr other ↦
            let next : IfSome (slice_get os i) (λ o. of_pair o ≡ false) =
            rw (slice_get-get_or os i d (omega (arith, low, high))) other in
            let none : All (λ o. of_pair o ≡ false) (drop i os) =
            All-from_recursion (λ o. of_pair o ≡ false) (drop i os) (none_after first os i s b there rising next) in
            let last = AllWithin-from_all (λ o. of_pair o ≡ false) (drop i os) none (j - i) d (omega arith)
            (omega (arith, low, high, length-drop i os)) in
            let place : i + (j - i) ≡ j = omega (arith, low) in
            let same : get_or (drop i os) (j - i) d ≡ get_or os j d =
            get_or-drop i os (j - i) d ∙ ap (λ (k : ℕ). get_or os k d) place in
            absurd cc
      ]

  pub none_kept : (os : List Offer) → AllByRecursion (λ o. of_pair o ≡ false) os → pair_of sell buy os ≡ []
  none_kept [] all = refl
  none_kept (o ∷ os) all = rw all.0 (none_kept os all.1)

  pub own_kept : (own others : List Offer) → AllByRecursion (λ o. of_pair o ≡ true) own
      → AllByRecursion (λ o. of_pair o ≡ false) others → pair_of sell buy (own ++ others) ≡ own
  own_kept own others mine none =
      filter-append of_pair own others
      ∙ ap₂ ◌++◌ (keeps_all of_pair own mine) (none_kept others none) ∙ append-nil own

-- ---- what holds up to a place, or from it on

pub front_all : (P : Offer → Type 0) (os : List Offer) (k : ℕ) → k ≤ length os → AllWithin P os 0 k → All P (take k os)
front_all P os k within all =
    let long = length-take-le k os within in
    All-from_all_within P (take k os) (λ i d low high.
    let lt : i < k = omega (arith, high, long) in
    subst P (sym (get_or-take k os i d lt)) (all i d low lt))

pub next_is : (P : Offer → Type 0) (os : List Offer) (k : ℕ) → AllWithin P os k (length os)
    → IfSome (slice_get os k) P
next_is P os k all =
    elim (slice_get_cases os k).1 [
      | inl found ↦
          let (x, inside, there, read) = found in
          rw there (subst P read (all k x (omega arith) inside))
      | inr past ↦ rw past.1 tt
    ]

-- ---- parts of offers in order

precedes_front : (o : Offer) (front back : List Offer) → Precedes (key_of o) (front ++ back) → Precedes (key_of o) front
precedes_front o [] back all = tt
precedes_front o (x ∷ front) back all = (all.0, precedes_front o front back all.1)

pub rising_front : (front back : List Offer) → Rising (front ++ back) → Rising front
rising_front [] back rising = tt
rising_front (x ∷ front) back rising =
    (precedes_front x front back rising.0, rising_front front back rising.1)
