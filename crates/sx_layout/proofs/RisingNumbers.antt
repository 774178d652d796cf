-- Numbers that rise: which are there, and where. Two such lists with the same numbers are the same list.
use Rattle.std.proofs.Common.{◌≡◌, ◌≢◌, ℕ, zero, suc, ◌+◌, ◌-◌, ◌<◌, ◌≤◌, Bool, true, false, ◌==◌, ◌||◌, List, []}
use Rattle.std.proofs.Common.{◌∷◌, length, ◌⊎◌, nat_lt}
use Rattle.std.proofs.Common.{get_or, inl, inr, refl, sym, ap, ◌∙◌, arith, cond}
use Rattle.std.specs.List.{list_any, dedup, dedup_from}
use Rattle.std.specs.List.Sorted.{IsStrictlyIncreasing}
use Rattle.std.proofs.lemmas.Bool.{cases_order, cases_lt, cases_eq, cases_Bool, eqb-true, eq-eqb, ne_eqb, lt-ltb}
use Rattle.std.proofs.lemmas.Bool.{le-ltb}
use Rattle.std.proofs.lemmas.List.Sums.{position_or_len_is}
use Rattle.sx_layout.specs.NewIds.{put_once, each_once}
use Rattle.sx_layout.specs.Plan.{place_in}

abbrev pub has : ℕ → List ℕ → Bool
has x xs = list_any (λ other. other == x) xs

-- each number of the list is greater
abbrev pub Above : ℕ → List ℕ → Type 0
Above x [] = Unit {0}
Above x (y ∷ ys) = (x < y) × Above x ys

abbrev pub Rising : List ℕ → Type 0
Rising [] = Unit {0}
Rising (x ∷ xs) = Above x xs × Rising xs

pub above_lower : (w x : ℕ) → w ≤ x → (ys : List ℕ) → Above x ys → Above w ys
above_lower w x le [] above = tt
above_lower w x le (y ∷ ys) above = (omega (arith, above.0), above_lower w x le ys above.1)

pub rising_from : (xs : List ℕ) → IsStrictlyIncreasing xs → Rising xs
rising_from [] up = tt
rising_from (x ∷ []) up = (tt, tt)
rising_from (x ∷ y ∷ ys) up =
    let first : x < y = up 0 (omega arith) in
    let tail : Rising (y ∷ ys) = rising_from (y ∷ ys)
    (λ k lt. let step : suc k + 1 ≡ suc (k + 1) = omega arith in rw step at (up (suc k) (omega arith))) in
    ((first, above_lower x y (omega arith) ys tail.0), tail)

-- a number that all are above is not there
pub not_below : (w x : ℕ) → w ≤ x → (ys : List ℕ) → Above x ys → has w ys ≡ false
not_below w x le [] above = refl
not_below w x le (y ∷ ys) above =
    let lt : x < y = above.0 in
    let other : y ≢ w = omega arith in
    rw (ne_eqb y w other) (not_below w x le ys above.1)

here : (x : ℕ) (xs : List ℕ) → has x (x ∷ xs) ≡ true
here x xs = rw (eq-eqb x x refl) refl

-- a first number that is smaller than each of another list is not in it
clash : (x y : ℕ) (xs ys : List ℕ) → x < y → Rising (y ∷ ys) → has x (x ∷ xs) ≡ has x (y ∷ ys) → ⊥
clash x y xs ys lt rising same =
    let absent : has x (y ∷ ys) ≡ false = not_below x x (omega arith) (y ∷ ys)
    (lt, above_lower x y (omega arith) ys rising.0) in
    let there : has x (x ∷ xs) ≡ true = here x xs in
    cc

further : (x : ℕ) (xs ys : List ℕ) → Above x xs → Above x ys → ((z : ℕ) → has z (x ∷ xs) ≡ has z (x ∷ ys))
    → (z : ℕ) → has z xs ≡ has z ys
further x xs ys above others same z =
    elim (cases_eq x z) [
      | inl e ↦ not_below z x (omega (arith, e)) xs above ∙ sym (not_below z x (omega (arith, e)) ys others)
      | inr ne ↦ let h : has z (x ∷ xs) ≡ has z (x ∷ ys) = same z in rw (ne_eqb x z ne) at h
    ]

pub one_list : (xs ys : List ℕ) → Rising xs → Rising ys → ((z : ℕ) → has z xs ≡ has z ys) → xs ≡ ys
one_list [] [] rising others same = refl
one_list [] (y ∷ ys) rising others same = let h = same y in let there = here y ys in absurd cc
one_list (x ∷ xs) [] rising others same = let h = same x in let there = here x xs in absurd cc
one_list (x ∷ xs) (y ∷ ys) rising others same =
    elim (cases_order x y) [
      | inl e ↦ tails (one_list xs ys rising.1 others.1) e
      | inr (inl lt) ↦ absurd (clash x y xs ys lt others (same x))
      | inr (inr gt) ↦ absurd (clash y x ys xs gt rising (sym (same y)))
    ]
  where
    tails : (((z : ℕ) → has z xs ≡ has z ys) → xs ≡ ys) → x ≡ y → (x ∷ xs) ≡ (y ∷ ys)
    tails rest e =
        let above : Above x ys = above_lower x y (omega (arith, e)) ys others.0 in
        let alike : (z : ℕ) → has z (x ∷ xs) ≡ has z (x ∷ ys) =
        λ z. same z ∙ ap (λ (n : ℕ). (n == z) || has z ys) (sym e) in
        ap (λ (zs : List ℕ). x ∷ zs) (rest (further x xs ys rising.0 above alike))
        ∙ ap (λ (n : ℕ). n ∷ ys) e

-- ---- where a number stands

module _ (xs : List ℕ) (up : (i j : ℕ) → i < j → j < length xs → get_or xs i 0 < get_or xs j 0) where
  pub place_is : (k x : ℕ) → k < length xs → get_or xs k 0 ≡ x → place_in xs x ≡ k
  place_is k x lt at =
      position_or_len_is (λ other. other == x) xs k 0 (omega arith)
      (λ j below. let less : get_or xs j 0 < get_or xs k 0 = up j k below lt in
      let other : get_or xs j 0 ≢ x = omega arith in ne_eqb (get_or xs j 0) x other)
      (λ _. eq-eqb (get_or xs k 0) x at)

pub has_at : (xs : List ℕ) (k x : ℕ) → k < length xs → get_or xs k 0 ≡ x → has x xs ≡ true
has_at [] k x lt at = absurd (omega arith)
has_at (y ∷ ys) zero x lt at = rw (eq-eqb y x at) refl
has_at (y ∷ ys) (suc k) x lt at =
    elim (cases_Bool (y == x)) [
      | inl e ↦ rw e refl
      | inr e ↦ rw e (has_at ys k x (omega arith) at)
    ]

pub has_none : (xs : List ℕ) (x : ℕ) → ((k : ℕ) → k < length xs → get_or xs k 0 ≢ x) → has x xs ≡ false
has_none [] x none = refl
has_none (y ∷ ys) x none =
    let first : y ≢ x = none 0 (omega arith) in
    rw (ne_eqb y x first) (has_none ys x (λ k lt. none (suc k) (omega arith)))

-- ---- each number once

has_put : (z id : ℕ) (ys : List ℕ) → has z (put_once id ys) ≡ ((id == z) || has z ys)
has_put z id [] = refl
has_put z id (y ∷ ys) =
    elim (cases_Bool (id == y)) [
      | inl e ↦ let same : id ≡ y = eqb-true id y e in rw e (rw same (twice (y == z) (has z ys)))
      | inr e ↦ rw e (placed (has_put z id ys) (cases_lt id y))
    ]
  where
    twice : (b c : Bool) → (b || c) ≡ (b || (b || c))
    twice true c = refl
    twice false c = refl

    turned : (b c d : Bool) → (b || (c || d)) ≡ (c || (b || d))
    turned true true d = refl
    turned true false d = refl
    turned false true d = refl
    turned false false d = refl

    placed : has z (put_once id ys) ≡ ((id == z) || has z ys) → (id < y) ⊎ (y ≤ id)
        → has z (cond (nat_lt id y) (id ∷ y ∷ ys) (y ∷ put_once id ys)) ≡ ((id == z) || has z (y ∷ ys))
    placed rest (inl lt) = rw (lt-ltb id y lt) refl
    placed rest (inr le) =
        rw (le-ltb id y le) (ap (λ (b : Bool). (y == z) || b) rest ∙ turned (y == z) (id == z) (has z ys))

pub has_each_once : (z : ℕ) (xs : List ℕ) → has z (each_once xs) ≡ has z xs
has_each_once z [] = refl
has_each_once z (x ∷ xs) =
    has_put z x (each_once xs) ∙ ap (λ (b : Bool). (x == z) || b) (has_each_once z xs)

above_put : (x id : ℕ) → x < id → (ys : List ℕ) → Above x ys → Above x (put_once id ys)
above_put x id lt [] above = (lt, tt)
above_put x id lt (y ∷ ys) above =
    elim (cases_Bool (id == y)) [
      | inl e ↦ rw e above
      | inr e ↦ rw e (elim (cases_lt id y) [
        | inl less ↦ rw (lt-ltb id y less) (lt, above)
        | inr more ↦ rw (le-ltb id y more) (above.0, above_put x id lt ys above.1)
      ])
    ]

rising_put : (id : ℕ) (ys : List ℕ) → Rising ys → Rising (put_once id ys)
rising_put id [] rising = (tt, tt)
rising_put id (y ∷ ys) rising =
    elim (cases_Bool (id == y)) [
      | inl e ↦ rw e rising
      | inr e ↦ rw e (elim (cases_lt id y) [
        | inl less ↦ rw (lt-ltb id y less) ((less, above_lower id y (omega arith) ys rising.0), rising)
        | inr more ↦ rw (le-ltb id y more) (above_put y id (apart more e) ys rising.0, rising_put id ys rising.1)
      ])
    ]
  where
    apart : y ≤ id → (id == y) ≡ false → y < id
    apart le e = elim (cases_order y id) [
      | inl same ↦ let yes : (id == y) ≡ true = eq-eqb id y (sym same) in absurd cc
      | inr (inl lt) ↦ lt
      | inr (inr gt) ↦ absurd (omega arith)
    ]

pub rising_each_once : (xs : List ℕ) → Rising (each_once xs)
rising_each_once [] = tt
rising_each_once (x ∷ xs) = rising_put x (each_once xs) (rising_each_once xs)

-- ---- after neighbours that are equal became one

has_dedup_from : (z x : ℕ) (ys : List ℕ) → has z (dedup_from (λ a b. a == b) x ys) ≡ ((x == z) || has z ys)
has_dedup_from z x [] = refl
has_dedup_from z x (y ∷ ys) =
    elim (cases_Bool (y == x)) [
      | inl e ↦ let same : y ≡ x = eqb-true y x e in rw e (has_dedup_from z x ys ∙ rw same (twice (x == z) (has z ys)))
      | inr e ↦ rw e (ap (λ (b : Bool). (x == z) || b) (has_dedup_from z y ys))
    ]
  where
    twice : (b c : Bool) → (b || c) ≡ (b || (b || c))
    twice true c = refl
    twice false c = refl

pub has_dedup : (z : ℕ) (xs : List ℕ) → has z (dedup (λ a b. a == b) xs) ≡ has z xs
has_dedup z [] = refl
has_dedup z (x ∷ xs) = has_dedup_from z x xs

-- ---- by places

rises : (xs : List ℕ) → IsStrictlyIncreasing xs → (i k : ℕ) → i + k + 1 < length xs
    → get_or xs i 0 < get_or xs (i + k + 1) 0
rises xs up i zero lt = let same : i + zero + 1 ≡ i + 1 = omega arith in rw same (up i (omega arith))
rises xs up i (suc k) lt =
    let before : get_or xs i 0 < get_or xs (i + k + 1) 0 = rises xs up i k (omega arith) in
    let step : get_or xs (i + k + 1) 0 < get_or xs (i + k + 1 + 1) 0 = up (i + k + 1) (omega arith) in
    let same : i + suc k + 1 ≡ i + k + 1 + 1 = omega arith in
    rw same (omega arith)

pub rises_to : (xs : List ℕ) → IsStrictlyIncreasing xs → (i j : ℕ) → i < j → j < length xs
    → get_or xs i 0 < get_or xs j 0
rises_to xs up i j lt in_range =
    let same : i + (j - i - 1) + 1 ≡ j = omega arith in
    rw same at (rises xs up i (j - i - 1) (omega arith))

pub rises_weakly : (xs : List ℕ) → IsStrictlyIncreasing xs → (i j : ℕ) → i ≤ j → j < length xs
    → get_or xs i 0 ≤ get_or xs j 0
rises_weakly xs up i j le in_range =
    elim (cases_order i j) [
      | inl e ↦ rw e (omega arith)
      | inr (inl lt) ↦ let less : get_or xs i 0 < get_or xs j 0 = rises_to xs up i j lt in_range in omega arith
      | inr (inr gt) ↦ absurd (omega arith)
    ]
