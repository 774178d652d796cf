-- Sums over lists: what one place and two places count for, and where what counts stands.
use Rattle.std.proofs.Common.{◌≡◌, ℕ, zero, suc, ◌+◌, ◌<◌, ◌≤◌, Bool, true, List, [], ◌∷◌, sum_by}
use Rattle.std.proofs.Common.{Some, inl, inr, refl, ap, ap₂, ◌∙◌, ◌⊎◌, arith}
use Rattle.std.specs.Prelude.{slice_get}
use Rattle.std.specs.List.{flat_map, list_any, position_or_len}
use Rattle.std.proofs.lemmas.Bool.{cases_Bool, cases_lt}
use Rattle.std.proofs.lemmas.List.Sums.{sum_by-append, sum_by-cons}
use Rattle.std.proofs.lemmas.Option.{same_Some}

abbrev pub total : {X : Type 0} → (X → ℕ) → List X → ℕ
total f [] = 0
total f (x ∷ xs) = f x + total f xs

pub one_place : {X : Type 0} (f : X → ℕ) (xs : List X) (i : ℕ) (a : X) → slice_get xs i ≡ Some a → f a ≤ total f xs
one_place f [] i a at = absurd cc
one_place f (x ∷ xs) zero a at = let same = ap f (same_Some x a at) in omega (arith, same)
one_place f (x ∷ xs) (suc i) a at = omega (arith, one_place f xs i a at)

pub two_places : {X : Type 0} (f : X → ℕ) (xs : List X) (i j : ℕ) (a b : X) → i < j → slice_get xs i ≡ Some a
    → slice_get xs j ≡ Some b → f a + f b ≤ total f xs
two_places f [] i j a b lt at there = absurd cc
two_places f (x ∷ xs) i zero a b lt at there = absurd (omega arith)
two_places f (x ∷ xs) zero (suc j) a b lt at there =
    let same = ap f (same_Some x a at) in omega (arith, same, one_place f xs j b there)
two_places f (x ∷ xs) (suc i) (suc j) a b lt at there =
    omega (arith, two_places f xs i j a b (omega arith) at there)

-- what counts stands somewhere
pub record Somewhere {X : Type 0} (f : X → ℕ) (xs : List X) : Type 0 where
  pub place : ℕ
  pub entry : X
  pub stands : slice_get xs place ≡ Some entry
  pub counts : 1 ≤ f entry

pub some_place : {X : Type 0} (f : X → ℕ) (xs : List X) → 1 ≤ total f xs → Somewhere f xs
some_place f [] le = absurd (omega arith)
some_place f (x ∷ xs) le =
    elim (cases_lt 0 (f x)) [
      | inl here ↦ record { place = zero; entry = x; stands = refl; counts = omega arith }
      | inr none ↦
          let rest = some_place f xs (omega arith) in
          record { place = suc rest.place; entry = rest.entry; stands = rest.stands; counts = rest.counts }
    ]

pub total_le : {X : Type 0} (f g : X → ℕ) (xs : List X) → ((k : ℕ) (x : X) → slice_get xs k ≡ Some x → f x ≤ g x)
    → total f xs ≤ total g xs
total_le f g [] le = omega arith
total_le f g (x ∷ xs) le = omega (arith, le 0 x refl, total_le f g xs (λ k y at. le (suc k) y at))

pub total_same : {X : Type 0} (f g : X → ℕ) (xs : List X) → ((k : ℕ) (x : X) → slice_get xs k ≡ Some x → f x ≡ g x)
    → total f xs ≡ total g xs
total_same f g [] same = refl
total_same f g (x ∷ xs) same = ap₂ ◌+◌ (same 0 x refl) (total_same f g xs (λ k y at. same (suc k) y at))

pub total_none : {X : Type 0} (xs : List X) → total (λ _. 0) xs ≡ zero
total_none [] = refl
total_none (x ∷ xs) = omega (arith, total_none xs)

-- the same as a sum of std
pub sum_is : {X : Type 0} (f : X → ℕ) (xs : List X) → sum_by f xs ≡ total f xs
sum_is f [] = refl
sum_is f (x ∷ xs) = sum_by-cons f x xs ∙ ap (λ (n : ℕ). f x + n) (sum_is f xs)

pub sum_flat : {X Y : Type 0} (f : Y → ℕ) (m : X → List Y) (xs : List X)
    → sum_by f (flat_map m xs) ≡ total (λ x. sum_by f (m x)) xs
sum_flat f m [] = refl
sum_flat f m (x ∷ xs) =
    sum_by-append f (m x) (flat_map m xs) ∙ ap (λ (n : ℕ). sum_by f (m x) + n) (sum_flat f m xs)

pub sum_one : {X : Type 0} (f : X → ℕ) (x : X) → sum_by f (x ∷ []) ≡ f x
sum_one f x = sum_by-cons f x [] ∙ omega arith

-- ---- elements

abbrev pub In : {X : Type 0} → X → List X → Type 0
In x [] = ⊥
In x (y ∷ ys) = (y ≡ x) ⊎ In x ys

pub in_counts : {X : Type 0} (f : X → ℕ) (x : X) (xs : List X) → In x xs → f x ≤ total f xs
in_counts f x [] is = absurd is
in_counts f x (y ∷ ys) (inl e) = let same = ap f e in omega (arith, same)
in_counts f x (y ∷ ys) (inr is) = omega (arith, in_counts f x ys is)

pub record Element {X : Type 0} (f : X → ℕ) (xs : List X) : Type 0 where
  pub entry : X
  pub among : In entry xs
  pub counts : 1 ≤ f entry

pub counts_in : {X : Type 0} (f : X → ℕ) (xs : List X) → 1 ≤ total f xs → Element f xs
counts_in f [] le = absurd (omega arith)
counts_in f (x ∷ xs) le =
    elim (cases_lt 0 (f x)) [
      | inl here ↦ record { entry = x; among = inl refl; counts = omega arith }
      | inr none ↦
          let rest = counts_in f xs (omega arith) in
          record { entry = rest.entry; among = inr rest.among; counts = rest.counts }
    ]

-- ---- the first that passes

pub record Found {X : Type 0} (p : X → Bool) (xs : List X) : Type 0 where
  pub entry : X
  pub stands : slice_get xs (position_or_len p xs) ≡ Some entry
  pub passes : p entry ≡ true

pub found : {X : Type 0} (p : X → Bool) (xs : List X) → list_any p xs ≡ true → Found p xs
found p [] some = absurd cc
found p (x ∷ xs) some =
    elim (cases_Bool (p x)) [
      | inl e ↦ record { entry = x; stands = rw e refl; passes = e }
      | inr e ↦
          let rest = found p xs (rw e at some) in
          let next : 1 + position_or_len p xs ≡ suc (position_or_len p xs) = omega arith in
          record { entry = rest.entry; stands = rw e (rw next rest.stands); passes = rest.passes }
    ]
