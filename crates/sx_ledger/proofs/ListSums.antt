-- Sums over lists: two at once, of one element alone, of balances that give and take, and of what a filter keeps.
use Rattle.std.proofs.Common.{◌≡◌, ℕ, zero, suc, ◌+◌, ◌-◌, ◌≤◌, Bool, cond, not, List, [], ◌∷◌, All, sum_by, Option}
use Rattle.std.proofs.Common.{Some, None, slice_get, inl, inr, refl, ap, ◌∙◌, arith}
use Rattle.std.specs.List.{cons_option, filter, filter_map}
use Rattle.std.proofs.lemmas.Bool.{cases_Bool}
use Rattle.std.proofs.lemmas.List.Sums.{sum_by-cons}
use Rattle.std.proofs.lemmas.List.Elements.{All-head, All-tail}
use Rattle.std.proofs.lemmas.Option.{none-some, same_Some}

pub sum_by-add : {X : Type 0} (f g : X → ℕ) (xs : List X) → sum_by (λ x. f x + g x) xs ≡ sum_by f xs + sum_by g xs
sum_by-add f g [] = refl
sum_by-add f g (x ∷ xs) =
    omega (arith, sum_by-cons (λ x. f x + g x) x xs, sum_by-cons f x xs, sum_by-cons g x xs, sum_by-add f g xs)

pub sum_by-same : {X : Type 0} (f g : X → ℕ) (xs : List X) → ((x : X) → f x ≡ g x) → sum_by f xs ≡ sum_by g xs
sum_by-same f g [] same = refl
sum_by-same f g (x ∷ xs) same = omega (arith, sum_by-cons f x xs, sum_by-cons g x xs, same x, sum_by-same f g xs same)

pub sum_by-none : {X : Type 0} (f : X → ℕ) (xs : List X) → ((q : ℕ) (y : X) → slice_get xs q ≡ Some y → f y ≡ 0)
    → sum_by f xs ≡ 0
sum_by-none f [] none = refl
sum_by-none f (x ∷ xs) none =
    omega (arith, sum_by-cons f x xs, none zero x refl, sum_by-none f xs (λ q y e. none (suc q) y e))

-- a sum with one term that is not 0
pub sum_by-one : {X : Type 0} (f : X → ℕ) (xs : List X) (place : ℕ) (x : X) → slice_get xs place ≡ Some x
    → ((q : ℕ) (y : X) → slice_get xs q ≡ Some y → (q ≡ place → ⊥) → f y ≡ 0) → sum_by f xs ≡ f x
sum_by-one f [] place x here others = absurd (none-some x here)
sum_by-one f (head ∷ xs) zero x here others =
    let rest : sum_by f xs ≡ 0 = sum_by-none f xs (λ q y e. others (suc q) y e (λ same. absurd (omega arith))) in
    let is : f head ≡ f x = ap f (same_Some head x here) in
    omega (arith, sum_by-cons f head xs)
sum_by-one f (head ∷ xs) (suc place) x here others =
    let first : f head ≡ 0 = others zero head refl (λ same. absurd (omega arith)) in
    let rest : sum_by f xs ≡ f x =
    sum_by-one f xs place x here (λ q y e other. others (suc q) y e (λ same. other (omega arith))) in
    omega (arith, sum_by-cons f head xs)

-- balances that all cover what is taken, with what is given: what is taken and what is left make up what was and what
-- is given
pub sum_by-moved : {X : Type 0} (balance taken given : X → ℕ) (xs : List X)
    → All (λ x. taken x ≤ balance x + given x) xs
    → sum_by (λ x. (balance x + given x) - taken x) xs + sum_by taken xs ≡ sum_by balance xs + sum_by given xs
sum_by-moved balance taken given [] covers = refl
sum_by-moved {X} balance taken given (x ∷ xs) covers =
    let Covers = λ (x : X). taken x ≤ balance x + given x in
    let here : taken x ≤ balance x + given x = All-head Covers x xs covers in
    omega (
      arith,
      sum_by-cons (λ x. (balance x + given x) - taken x) x xs,
      sum_by-cons taken x xs,
      sum_by-cons balance x xs,
      sum_by-cons given x xs,
      sum_by-moved balance taken given xs (All-tail Covers x xs covers),
    )

-- what is kept and what passes the test make up all
pub sum_by-kept : {X : Type 0} (f : X → ℕ) (p : X → Bool) (xs : List X)
    → sum_by f (filter (λ x. not (p x)) xs) + sum_by (λ x. cond (p x) (f x) 0) xs ≡ sum_by f xs
sum_by-kept f p [] = refl
sum_by-kept {X} f p (x ∷ xs) =
    let cut = λ (x : X). cond (p x) (f x) 0 in
    let keeps = λ (x : X). not (p x) in
    let rest : sum_by f (filter keeps xs) + sum_by cut xs ≡ sum_by f xs = sum_by-kept f p xs in
    let split : sum_by cut (x ∷ xs) ≡ cut x + sum_by cut xs = sum_by-cons cut x xs in
    let whole = sum_by-cons f x xs in
    elim (cases_Bool (p x)) [
      | inl gone ↦
          let first : cut x ≡ f x = rw gone refl in
          let kept : sum_by f (filter keeps (x ∷ xs)) ≡ sum_by f (filter keeps xs) =
          ap (sum_by f) (let same : filter keeps (x ∷ xs) ≡ filter keeps xs = rw gone refl in same) in
          omega arith
      | inr stays ↦
          let first : cut x ≡ 0 = rw stays refl in
          let same : filter keeps (x ∷ xs) ≡ x ∷ filter keeps xs = rw stays refl in
          let kept : sum_by f (filter keeps (x ∷ xs)) ≡ f x + sum_by f (filter keeps xs) =
          ap (sum_by f) same ∙ sum_by-cons f x (filter keeps xs) in
          omega arith
    ]

-- ---- optional values

abbrev pub counted : {Y : Type 0} → (Y → ℕ) → Option Y → ℕ
counted f None = 0
counted f (Some y) = f y

sum_by-cons_option : {Y : Type 0} (f : Y → ℕ) (o : Option Y) (ys : List Y)
    → sum_by f (cons_option o ys) ≡ counted f o + sum_by f ys
sum_by-cons_option f None ys = omega arith
sum_by-cons_option f (Some y) ys = sum_by-cons f y ys

pub sum_by-filter_map : {X Y : Type 0} (f : Y → ℕ) (h : X → Option Y) (xs : List X)
    → sum_by f (filter_map h xs) ≡ sum_by (λ x. counted f (h x)) xs
sum_by-filter_map f h [] = refl
sum_by-filter_map f h (x ∷ xs) =
    omega (
      arith,
      sum_by-cons_option f (h x) (filter_map h xs),
      sum_by-filter_map f h xs,
      sum_by-cons (λ x. counted f (h x)) x xs,
    )
