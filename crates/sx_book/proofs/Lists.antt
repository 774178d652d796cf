-- Facts of each element of a list, and what a test keeps.
use Rattle.std.proofs.Common.{◌≡◌, ℕ, zero, suc, ◌+◌, ◌<◌, ◌⊎◌, Bool, true, false, List, [], ◌∷◌, ◌++◌, length, map}
use Rattle.std.proofs.Common.{take, drop, Option, Some, None, slice_get, inl, inr, refl, sym, ap, ◌∙◌, arith}
use Rattle.std.proofs.Common.{take-append-drop}
use Rattle.std.specs.List.{AllByRecursion, filter}

module _ {X : Type 0} (P : X → Type 0) where
  pub all_append : (xs ys : List X) → AllByRecursion P xs → AllByRecursion P ys → AllByRecursion P (xs ++ ys)
  all_append [] ys all more = more
  all_append (x ∷ xs) ys all more = (all.0, all_append xs ys all.1 more)

  pub all_parts : (xs ys : List X) → AllByRecursion P (xs ++ ys) → AllByRecursion P xs × AllByRecursion P ys
  all_parts [] ys all = (tt, all)
  all_parts (x ∷ xs) ys all = let rest = all_parts xs ys all.1 in ((all.0, rest.0), rest.1)

  pub all_take : (n : ℕ) (xs : List X) → AllByRecursion P xs → AllByRecursion P (take n xs)
  all_take n xs all = (all_parts (take n xs) (drop n xs) (rw take-append-drop all)).0

  pub all_drop : (n : ℕ) (xs : List X) → AllByRecursion P xs → AllByRecursion P (drop n xs)
  all_drop n xs all = (all_parts (take n xs) (drop n xs) (rw take-append-drop all)).1

  pub all_at : (xs : List X) (i : ℕ) (x : X) → AllByRecursion P xs → slice_get xs i ≡ Some x → P x
  all_at [] i x all here = absurd cc
  all_at (y ∷ xs) zero x all here = let same : y ≡ x = cc in rw (← same) all.0
  all_at (y ∷ xs) (suc i) x all here = all_at xs i x all.1 here

  pub all_from : (xs : List X) → ((i : ℕ) (x : X) → slice_get xs i ≡ Some x → P x) → AllByRecursion P xs
  all_from [] each = tt
  all_from (x ∷ xs) each = (each 0 x refl, all_from xs (λ i y here. each (suc i) y here))

  pub all_unmapped : {Y : Type 0} (f : Y → X) (ys : List Y) → AllByRecursion P (map f ys)
      → AllByRecursion (λ y. P (f y)) ys
  all_unmapped f [] all = tt
  all_unmapped f (y ∷ ys) all = (all.0, all_unmapped f ys all.1)

  pub all_weaker : (Q : X → Type 0) → ((x : X) → P x → Q x) → (xs : List X) → AllByRecursion P xs
      → AllByRecursion Q xs
  all_weaker Q then [] all = tt
  all_weaker Q then (x ∷ xs) all = (then x all.0, all_weaker Q then xs all.1)

module _ {X : Type 0} where
  pub filter_none : (test : X → Bool) (xs : List X) → AllByRecursion (λ x. test x ≡ false) xs → filter test xs ≡ []
  filter_none test [] all = refl
  filter_none test (x ∷ xs) all = rw all.0 (filter_none test xs all.1)

  pub filter_all : (test : X → Bool) (xs : List X) → AllByRecursion (λ x. test x ≡ true) xs → filter test xs ≡ xs
  filter_all test [] all = refl
  filter_all test (x ∷ xs) all = rw all.0 (ap (λ ys. x ∷ ys) (filter_all test xs all.1))

  -- an element of two lists, one after the other, is in one of them
  pub slice_get_append : (xs ys : List X) (i : ℕ) (x : X) → slice_get (xs ++ ys) i ≡ Some x
      → (slice_get xs i ≡ Some x) ⊎ ((j : ℕ) × (slice_get ys j ≡ Some x))
  slice_get_append [] ys i x here = inr (i, here)
  slice_get_append (y ∷ xs) ys zero x here = inl here
  slice_get_append (y ∷ xs) ys (suc i) x here = slice_get_append xs ys i x here

  pub split_at : (xs : List X) (i : ℕ) (x : X) → slice_get xs i ≡ Some x → xs ≡ take i xs ++ x ∷ drop (suc i) xs
  split_at [] i x here = absurd cc
  split_at (y ∷ xs) zero x here = ap (λ z. z ∷ xs) (let same = here in cc)
  split_at (y ∷ xs) (suc i) x here = ap (λ zs. y ∷ zs) (split_at xs i x here)
