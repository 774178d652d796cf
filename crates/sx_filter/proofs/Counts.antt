-- How often a test holds in a list, and what a filter leaves of it.
use Rattle.std.proofs.Common.{◌≡◌, ℕ, zero, suc, ◌+◌, ◌≤◌, Bool, true, false, cond, ◌&&◌, List, [], ◌∷◌}
use Rattle.std.proofs.Common.{◌++◌, inl, inr, ◌⊎◌, refl, sym, ap, ◌∙◌, arith}
use Rattle.std.specs.Prelude.{nat_le, Contains}
use Rattle.std.specs.List.{count_by, filter, list_any}
use Rattle.std.proofs.lemmas.Bool.{cases_Bool, le-leb, lt-leb}
use Rattle.std.proofs.lemmas.List.Elements.{filter-append}
use Rattle.sx_outcome.proofs.Totals.{In, in_counts, sum_is, total}

next : (m n : ℕ) → n ≡ 1 + m → nat_le 1 m ≡ nat_le 2 n
next zero n e = sym (lt-leb 2 n (omega arith))
next (suc m) n e = le-leb 1 (suc m) (omega arith) ∙ sym (le-leb 2 n (omega arith))

module _ {X : Type 0} where
  -- how often a test holds
  abbrev pub times : (X → Bool) → List X → ℕ
  times test xs = total (λ x. cond (test x) 1 0) xs

  pub count_is : (test : X → Bool) (xs : List X) → count_by test xs ≡ times test xs
  count_is test xs = sum_is (λ x. cond (test x) 1 0) xs

  pub total_append : (f : X → ℕ) (xs ys : List X) → total f (xs ++ ys) ≡ total f xs + total f ys
  total_append f [] ys = omega arith
  total_append f (x ∷ xs) ys = omega (arith, total_append f xs ys)

  -- ---- what a filter leaves

  pub total_left : (f : X → ℕ) (p : X → Bool) (xs : List X) → total f (filter p xs) ≡ total (λ x. cond (p x) (f x) 0) xs
  total_left f p [] = refl
  total_left f p (x ∷ xs) =
      elim (cases_Bool (p x)) [
        | inl e ↦ rw e (ap (λ (n : ℕ). f x + n) (total_left f p xs))
        | inr e ↦ rw e (omega (arith, total_left f p xs))
      ]

  pub total_less : (f : X → ℕ) (p : X → Bool) (xs : List X) → total f (filter p xs) ≤ total f xs
  total_less f p [] = omega arith
  total_less f p (x ∷ xs) =
      elim (cases_Bool (p x)) [
        | inl e ↦ rw e (omega (arith, total_less f p xs))
        | inr e ↦ rw e (omega (arith, total_less f p xs))
      ]

  at_first : (p : X → Bool) (x y : X) (xs ys : List X) → p x ≡ true → (In y ys → In y xs × (p y ≡ true))
      → (x ≡ y) ⊎ In y ys → In y (x ∷ xs) × (p y ≡ true)
  at_first p x y xs ys e rest (inl same) = (inl same, ap p (sym same) ∙ e)
  at_first p x y xs ys e rest (inr later) = let both = rest later in (inr both.0, both.1)

  pub in_filter : (p : X → Bool) (y : X) (xs : List X) → In y (filter p xs) → In y xs × (p y ≡ true)
  in_filter p y [] is = absurd is
  in_filter p y (x ∷ xs) is = elim (cases_Bool (p x)) [
    | inl e ↦ at_first p x y xs (filter p xs) e (in_filter p y xs) (rw e at is)
    | inr e ↦ let rest = in_filter p y xs (rw e at is) in (inr rest.0, rest.1)
  ]

  pub filter_in : (p : X → Bool) (y : X) (xs : List X) → In y xs → p y ≡ true → In y (filter p xs)
  filter_in p y [] is passes = absurd is
  filter_in p y (x ∷ xs) (inl same) passes =
      let here : p x ≡ true = ap p same ∙ passes in rw here (inl same)
  filter_in p y (x ∷ xs) (inr later) passes = elim (cases_Bool (p x)) [
    | inl e ↦ rw e (inr (filter_in p y xs later passes))
    | inr e ↦ rw e (filter_in p y xs later passes)
  ]

  pub filter_twice : (p q : X → Bool) (xs : List X) → filter (λ x. p x && q x) xs ≡ filter q (filter p xs)
  filter_twice p q [] = refl
  filter_twice p q (x ∷ xs) = elim (cases_Bool (p x)) [
    | inl e ↦ rw e (elim (cases_Bool (q x)) [
      | inl f ↦ rw f (ap (λ (ys : List X). x ∷ ys) (filter_twice p q xs))
      | inr f ↦ rw f (filter_twice p q xs)
    ])
    | inr e ↦ rw e (filter_twice p q xs)
  ]

  -- ---- elements

  pub in_contains : (x : X) (xs : List X) → Contains xs x → In x xs
  in_contains x [] (k, below, is) = absurd (omega arith)
  in_contains x (y ∷ xs) (zero, below, is) = inl is
  in_contains x (y ∷ xs) (suc k, below, is) = inr (in_contains x xs (k, omega arith, is))

  pub contains_in : (x : X) (xs : List X) → In x xs → Contains xs x
  contains_in x [] is = absurd is
  contains_in x (y ∷ xs) (inl e) = (0, omega arith, e)
  contains_in x (y ∷ xs) (inr is) =
      let rest = contains_in x xs is in (suc rest.0, omega (arith, rest.1), rest.2)

  -- two elements that are not the same count both
  pub two_in : (f : X → ℕ) (x y : X) (xs : List X) → In x xs → In y xs → (x ≡ y → ⊥) → f x + f y ≤ total f xs
  two_in f x y [] is too differ = absurd is
  two_in f x y (z ∷ xs) (inl here) (inl there) differ = absurd (differ (sym here ∙ there))
  two_in f x y (z ∷ xs) (inl here) (inr too) differ =
      let same = ap f here in omega (arith, same, in_counts f y xs too)
  two_in f x y (z ∷ xs) (inr is) (inl there) differ =
      let same = ap f there in omega (arith, same, in_counts f x xs is)
  two_in f x y (z ∷ xs) (inr is) (inr too) differ = omega (arith, two_in f x y xs is too differ)

  -- ---- what holds at another place

  pub any_is : (test : X → Bool) (xs : List X) → list_any test xs ≡ nat_le 1 (times test xs)
  any_is test [] = refl
  any_is test (x ∷ xs) =
      elim (cases_Bool (test x)) [
        | inl e ↦ rw e (sym (le-leb 1 (1 + times test xs) (omega arith)))
        | inr e ↦
            let same : 0 + times test xs ≡ times test xs = omega arith in
            rw e (rw same (any_is test xs))
      ]

  never : (test : X → Bool) (xs : List X) → ((x : X) → test x ≡ false) → times test xs ≡ 0
  never test [] fails = refl
  never test (x ∷ xs) fails = rw (fails x) (omega (arith, never test xs fails))

  -- A test that holds of x holds of another that is left where it holds twice; one that never holds does not.
  pub elsewhere : (p test : X → Bool) (before after : List X) (x : X) → p x ≡ true
      → (test x ≡ true) ⊎ ((y : X) → test y ≡ false)
      → list_any test (filter p (before ++ after)) ≡ nat_le 2 (count_by test (filter p (before ++ x ∷ after)))
  elsewhere p test before after x passes holds =
      any_is test (filter p (before ++ after)) ∙ by holds
      ∙ sym (ap (nat_le 2) (count_is test (filter p (before ++ x ∷ after))))
    where
      others : times test (filter p (before ++ after)) ≡ times test (filter p before) + times test (filter p after)
      others =
          ap (times test) (filter-append p before after)
          ∙ total_append (λ y. cond (test y) 1 0) (filter p before) (filter p after)

      first : filter p (x ∷ after) ≡ x ∷ filter p after
      first = rw passes refl

      all : times test (filter p (before ++ x ∷ after))
          ≡ times test (filter p before) + (cond (test x) 1 0 + times test (filter p after))
      all =
          ap (times test) (filter-append p before (x ∷ after))
          ∙ total_append (λ y. cond (test y) 1 0) (filter p before) (filter p (x ∷ after))
          ∙ ap (λ (ys : List X). times test (filter p before) + times test ys) first

      by : (test x ≡ true) ⊎ ((y : X) → test y ≡ false)
          → nat_le 1 (times test (filter p (before ++ after))) ≡ nat_le 2 (times test (filter p (before ++ x ∷ after)))
      by (inl holds_it) =
          let one : ℕ = 1 in
          let here : cond (test x) one 0 ≡ one = rw holds_it refl in
          next (times test (filter p (before ++ after))) (times test (filter p (before ++ x ∷ after)))
          (omega (arith, others, all, here))
      by (inr fails) =
          rw (never test (filter p (before ++ after)) fails)
          (rw (never test (filter p (before ++ x ∷ after)) fails) refl)
