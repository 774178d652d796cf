-- Sums over lists and over assets.
use Rattle.std.proofs.Common.{◌≡◌, ◌≢◌, ℕ, zero, suc, ◌+◌, ◌<◌, ◌≤◌, Bool, true, false, cond, eqb, ◌&&◌, List, []}
use Rattle.std.proofs.Common.{◌∷◌, sum_by, refl, sym, ap, ap₂, ◌∙◌, inl, inr, arith}
use Rattle.std.specs.List.{AllByRecursion, filter}
use Rattle.std.proofs.lemmas.Bool.{cases_Bool, cases_lt, eqb-true, eq-eqb, ne_eqb}
use Rattle.std.proofs.lemmas.List.Sums.{sum_by-cons}
use Rattle.sx_dual.specs.Sums.{sum_below}
use Rattle.sx_dual.proofs.SumLaws.{sum_below-same, sum_below-add}

pub sum_by-agree : {X : Type 0} (f g : X → ℕ) (xs : List X) → AllByRecursion (λ x. f x ≡ g x) xs
    → sum_by f xs ≡ sum_by g xs
sum_by-agree f g [] all = refl
sum_by-agree f g (x ∷ xs) all = omega (arith, sum_by-cons f x xs, sum_by-cons g x xs, all.0, sum_by-agree f g xs all.1)

-- an element that a test keeps or drops, and those that were kept
first_kept : {X : Type 0} (f : X → ℕ) (x : X) (kept : List X) (keeps : Bool)
    → sum_by f (cond keeps (x ∷ kept) kept) ≡ cond keeps (f x) 0 + sum_by f kept
first_kept f x kept true = sum_by-cons f x kept
first_kept f x kept false = omega arith

pub sum_by-filter : {X : Type 0} (f : X → ℕ) (p : X → Bool) (xs : List X)
    → sum_by f (filter p xs) ≡ sum_by (λ x. cond (p x) (f x) 0) xs
sum_by-filter f p [] = refl
sum_by-filter {X} f p (x ∷ xs) =
    let part : X → ℕ = λ x. cond (p x) (f x) 0 in
    let rest : sum_by f (filter p xs) ≡ sum_by part xs = sum_by-filter f p xs in
    first_kept f x (filter p xs) (p x) ∙ ap (λ (n : ℕ). part x + n) rest ∙ sym (sum_by-cons part x xs)

pub filter-le : {X : Type 0} (f : X → ℕ) (p : X → Bool) (xs : List X) → sum_by f (filter p xs) ≤ sum_by f xs
filter-le f p [] = omega arith
filter-le f p (x ∷ xs) =
    let rest = filter-le f p xs in
    elim (cases_Bool (p x)) [
      | inl keeps ↦ rw keeps (omega (arith, sum_by-cons f x (filter p xs), sum_by-cons f x xs))
      | inr drops ↦ rw drops (omega (arith, sum_by-cons f x xs))
    ]

-- ---- sums over the numbers below n

below_none : (f : ℕ → ℕ) (n : ℕ) → ((i : ℕ) → i < n → f i ≡ 0) → sum_below n f ≡ 0
unfolding sum_below
below_none f zero none = refl
below_none f (suc n) none =
    let rest = below_none f n (λ i lt. none i (omega arith)) in let here = none n (omega arith) in omega arith

-- one term alone
below_one : (k c n : ℕ) → k < n → sum_below n (λ i. cond (eqb k i) c 0) ≡ c
unfolding sum_below
below_one k c zero lt = absurd (omega arith)
below_one k c (suc n) lt =
    elim (cases_lt k n) [
      | inl below ↦ rw (ne_eqb k n (λ e. absurd (omega arith))) (let rest = below_one k c n below in omega arith)
      | inr at ↦
          let same : k ≡ n = omega arith in
          let none =
          below_none (λ i. cond (eqb k i) c 0) n (λ i lt. rw (ne_eqb k i (λ e. absurd (omega arith))) refl) in
          rw (eq-eqb k n same) (omega arith)
    ]

-- ---- grouped by another mark

one_group : (itself ours theirs : Bool) (units others : ℕ) → (itself ≡ true → ours ≡ true → theirs ≡ true → ⊥)
    → cond itself 0 (cond (ours && theirs) units 0 + others) ≡ cond ours (cond theirs units 0) 0 + cond itself 0 others
one_group true true true units others apart = absurd (apart refl refl refl)
one_group true true false units others apart = refl
one_group true false theirs units others apart = refl
one_group false true theirs units others apart = refl
one_group false false theirs units others apart = refl

module _ {X : Type 0} (a b f : X → ℕ) (A n : ℕ) where
  -- what an element adds to the group of K
  abbrev in_group : ℕ → X → ℕ
  in_group K x = cond (eqb (a x) A && eqb (b x) K) (f x) 0

  abbrev of_group : List X → ℕ → ℕ
  of_group xs K = cond (eqb A K) 0 (sum_by (in_group K) xs)

  -- one element adds to one group
  group_more : (x : X) (xs : List X) (K : ℕ) → b x ≢ a x
      → of_group (x ∷ xs) K ≡ cond (eqb (a x) A) (cond (eqb (b x) K) (f x) 0) 0 + of_group xs K
  group_more x xs K differ =
      let split : sum_by (in_group K) (x ∷ xs) ≡ in_group K x + sum_by (in_group K) xs =
      sum_by-cons (in_group K) x xs in
      ap (cond (eqb A K) 0) split
      ∙ one_group (eqb A K) (eqb (a x) A) (eqb (b x) K) (f x) (sum_by (in_group K) xs)
      (λ itself ours theirs. differ (eqb-true (b x) K theirs ∙ sym (eqb-true A K itself) ∙ sym (eqb-true (a x) A ours)))

  pub grouped : (xs : List X) → AllByRecursion (λ x. (b x < n) × (b x ≢ a x)) xs
      → sum_below n (of_group xs) ≡ sum_by (λ x. cond (eqb (a x) A) (f x) 0) xs
  grouped [] all =
      below_none (of_group []) n (λ K lt. elim (cases_Bool (eqb A K))
      [ inl same ↦ rw same refl | inr other ↦ rw other refl ])
  grouped (x ∷ xs) all =
      let first : ℕ → ℕ = λ K. cond (eqb (a x) A) (cond (eqb (b x) K) (f x) 0) 0 in
      let one : sum_below n first ≡ cond (eqb (a x) A) (f x) 0 =
      elim (cases_Bool (eqb (a x) A)) [
        | inl ours ↦ rw ours (below_one (b x) (f x) n all.0.0)
        | inr others ↦ rw others (below_none (λ K. 0) n (λ K lt. refl))
      ] in
      sum_below-same n (of_group (x ∷ xs)) (λ K. first K + of_group xs K) (λ K lt. group_more x xs K all.0.1)
      ∙ sum_below-add n first (of_group xs) ∙ ap₂ ◌+◌ one (grouped xs all.1)
      ∙ sym (sum_by-cons (λ x. cond (eqb (a x) A) (f x) 0) x xs)
