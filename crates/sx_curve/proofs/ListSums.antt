-- Sums over what filters keep.
use Rattle.std.proofs.Common.{◌≡◌, ℕ, ◌+◌, ◌*◌, ◌≤◌, Bool, true, false, cond, not, ◌&&◌, List, [], ◌∷◌, All, sum_by}
use Rattle.std.proofs.Common.{inl, inr, refl, sym, ap, ◌∙◌, arith}
use Rattle.std.specs.List.{filter}
use Rattle.std.specs.List.Sorted.{IsPermutation}
use Rattle.std.proofs.lemmas.Bool.{cases_Bool}
use Rattle.std.proofs.lemmas.List.Elements.{All-head, All-tail}
use Rattle.std.proofs.lemmas.List.Sorted.{sum_by-IsPermutation}
use Rattle.std.proofs.lemmas.List.Sums.{sum_by-cons}

-- what an element counts, if it passes the test
abbrev pub masked : {X : Type 0} → (X → Bool) → (X → ℕ) → X → ℕ
masked p f x = cond (p x) (f x) 0

-- a sum over what passes is a sum over all
pub sum_by-filter : {X : Type 0} (f : X → ℕ) (p : X → Bool) (xs : List X)
    → sum_by f (filter p xs) ≡ sum_by (masked p f) xs
sum_by-filter f p [] = refl
sum_by-filter {X} f p (x ∷ xs) =
    let rest : sum_by f (filter p xs) ≡ sum_by (masked p f) xs = sum_by-filter f p xs in
    let split : sum_by (masked p f) (x ∷ xs) ≡ masked p f x + sum_by (masked p f) xs = sum_by-cons (masked p f) x xs in
    elim (cases_Bool (p x)) [
      | inl keeps ↦
          let first : masked p f x ≡ f x = rw keeps refl in
          let same : filter p (x ∷ xs) ≡ x ∷ filter p xs = rw keeps refl in
          let kept : sum_by f (filter p (x ∷ xs)) ≡ f x + sum_by f (filter p xs) =
          ap (sum_by f) same ∙ sum_by-cons f x (filter p xs) in
          omega arith
      | inr drops ↦
          let first : masked p f x ≡ 0 = rw drops refl in
          let same : filter p (x ∷ xs) ≡ filter p xs = rw drops refl in
          let kept : sum_by f (filter p (x ∷ xs)) ≡ sum_by f (filter p xs) = ap (sum_by f) same in
          omega arith
    ]

-- a sum of two parts
pub sum_by-parts : {X : Type 0} (f g h : X → ℕ) (xs : List X) → All (λ x. f x ≡ g x + h x) xs
    → sum_by f xs ≡ sum_by g xs + sum_by h xs
sum_by-parts f g h [] parts = refl
sum_by-parts f g h (x ∷ xs) parts =
    let here : f x ≡ g x + h x = All-head (λ x. f x ≡ g x + h x) x xs parts in
    omega (
      arith,
      sum_by-cons f x xs,
      sum_by-cons g x xs,
      sum_by-cons h x xs,
      sum_by-parts f g h xs (All-tail (λ x. f x ≡ g x + h x) x xs parts),
    )

pub sum_by-zero : {X : Type 0} (f : X → ℕ) (xs : List X) → All (λ x. f x ≡ 0) xs → sum_by f xs ≡ 0
sum_by-zero f [] zeros = refl
sum_by-zero f (x ∷ xs) zeros =
    let here : f x ≡ 0 = All-head (λ x. f x ≡ 0) x xs zeros in
    omega (arith, sum_by-cons f x xs, sum_by-zero f xs (All-tail (λ x. f x ≡ 0) x xs zeros))

-- a multiple of one sum is at most multiples of two others, where that holds of each element
pub sum_by-bounded : {X : Type 0} (f g h : X → ℕ) (a b c : ℕ) (xs : List X) → All (λ x. a * f x ≤ b * g x + c * h x) xs
    → a * sum_by f xs ≤ b * sum_by g xs + c * sum_by h xs
sum_by-bounded f g h a b c [] bounded = omega arith
sum_by-bounded f g h a b c (x ∷ xs) bounded =
    let here : a * f x ≤ b * g x + c * h x = All-head (λ x. a * f x ≤ b * g x + c * h x) x xs bounded in
    let rest : a * sum_by f xs ≤ b * sum_by g xs + c * sum_by h xs =
    sum_by-bounded f g h a b c xs (All-tail (λ x. a * f x ≤ b * g x + c * h x) x xs bounded) in
    rw (sum_by-cons f x xs, sum_by-cons g x xs, sum_by-cons h x xs) (omega arith)

-- the order of the elements is of no account
pub sum_by-filter-permuted : {X : Type 0} (f : X → ℕ) (p : X → Bool) (xs ys : List X) → IsPermutation xs ys
    → sum_by f (filter p ys) ≡ sum_by f (filter p xs)
sum_by-filter-permuted f p xs ys h =
    sum_by-filter f p ys ∙ sum_by-IsPermutation (masked p f) xs ys h ∙ sym (sum_by-filter f p xs)

-- what passes two tests, one after the other
pub sum_by-filter_twice : {X : Type 0} (f : X → ℕ) (p q : X → Bool) (xs : List X)
    → sum_by f (filter p (filter q xs)) ≡ sum_by (masked q (masked p f)) xs
sum_by-filter_twice f p q xs = sum_by-filter f p (filter q xs) ∙ sum_by-filter (masked p f) q xs

pub sum_by-twice-permuted : {X : Type 0} (f : X → ℕ) (p q : X → Bool) (xs ys : List X) → IsPermutation xs ys
    → sum_by f (filter p (filter q ys)) ≡ sum_by f (filter p (filter q xs))
sum_by-twice-permuted f p q xs ys h =
    sum_by-filter_twice f p q ys ∙ sum_by-IsPermutation (masked q (masked p f)) xs ys h
    ∙ sym (sum_by-filter_twice f p q xs)

-- what passes the stricter test and what passes the other alone make up what passes the other
stricter_part : (strict wide : Bool) (n : ℕ) → (strict ≡ true → wide ≡ true)
    → cond wide n 0 ≡ cond strict n 0 + cond (wide && not strict) n 0
stricter_part true true n stricter = omega arith
stricter_part true false n stricter = let never : false ≡ true = stricter refl in absurd cc
stricter_part false true n stricter = omega arith
stricter_part false false n stricter = refl

pub sum_by-stricter : {X : Type 0} (f : X → ℕ) (p q : X → Bool) (xs : List X) → ((x : X) → p x ≡ true → q x ≡ true)
    → sum_by f (filter p xs) + sum_by f (filter (λ x. q x && not (p x)) xs) ≡ sum_by f (filter q xs)
sum_by-stricter {X} f p q xs stricter =
    let rest = λ (x : X). q x && not (p x) in
    let parts = sum_by-parts (masked q f) (masked p f) (masked rest f) xs
    (λ k d lt. stricter_part (p _) (q _) (f _) (stricter _)) in
    omega (arith, sum_by-filter f p xs, sum_by-filter f rest xs, sum_by-filter f q xs)
