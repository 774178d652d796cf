-- The first of the numbers at which a function is least.
use Rattle.std.proofs.Common.{◌≡◌, ℕ, zero, suc, ◌<◌, ◌≤◌, cond, nat_lt, inl, inr, subst, arith}
use Rattle.std.proofs.lemmas.Bool.{cases_lt, cond-false, cond-true, cond_both, le-ltb, lt-ltb, ltb-false, ltb-true}
use Rattle.sx_multi.specs.Posted.{IsFirstLeast, first_least}

-- what holds of each number below n, and of n, holds of each below n + 1
one_more : (P : ℕ → Type 0) (n : ℕ) → ((k : ℕ) → k < n → P k) → P n → (k : ℕ) → k < suc n → P k
one_more P n below at k lt =
    elim (cases_lt k n) [
      | inl less ↦ below k less
      | inr above ↦ let same : n ≡ k = omega arith in subst P same at
    ]

module _ (f : ℕ → ℕ) where
  -- of one number it is that one
  alone : IsFirstLeast f 1 0
  alone = record {
    below = omega arith;
    least = λ k lt. let same : 0 ≡ k = omega arith in subst (λ (m : ℕ). f 0 ≤ f m) same (omega arith);
    first = λ k lt. absurd (omega arith);
  }

  -- one more number is taken where it has less
  extended : (n i : ℕ) → IsFirstLeast f n i → IsFirstLeast f (suc n) (cond (nat_lt (f n) (f i)) n i)
  extended n i is =
      cond_both (nat_lt (f n) (f i)) n i (IsFirstLeast f (suc n))
      (λ less.
      let falls : f n < f i = ltb-true (f n) (f i) less in
      record {
        below = omega arith;
        least = one_more (λ k. f n ≤ f k) n (λ k lt. let more : f i ≤ f k = is.least k lt in omega arith) (omega arith);
        first = λ k lt. let more : f i ≤ f k = is.least k lt in omega arith;
      })
      (λ no.
      let low : i < n = is.below in
      record {
        below = omega arith;
        least = one_more (λ k. f i ≤ f k) n is.least (ltb-false (f n) (f i) no);
        first = is.first;
      })

  first_of_more : (n : ℕ) → IsFirstLeast f (suc n) (first_least f (suc n))
  unfolding first_least
  first_of_more zero = cond_both (nat_lt (f 0) (f 0)) 0 0 (IsFirstLeast f 1) (λ less. alone) (λ no. alone)
  first_of_more (suc n) = extended (suc n) (first_least f (suc n)) (first_of_more n)

  pub is_first_least : (n : ℕ) → 1 ≤ n → IsFirstLeast f n (first_least f n)
  is_first_least zero some = absurd (omega arith)
  is_first_least (suc n) some = first_of_more n

  falls : (n : ℕ) → f (first_least f (suc n)) ≤ f (first_least f n)
  unfolding first_least
  falls n =
      cond_both (nat_lt (f n) (f (first_least f n))) n (first_least f n) (λ (i : ℕ). f i ≤ f (first_least f n))
      (λ less. let falls : f n < f (first_least f n) = ltb-true (f n) (f (first_least f n)) less in omega arith)
      (λ no. omega arith)

  -- of more numbers the least is no greater
  pub no_greater : (few many : ℕ) → few ≤ many → f (first_least f many) ≤ f (first_least f few)
  no_greater few zero le =
      let same : 0 ≡ few = omega arith in
      subst (λ (n : ℕ). f (first_least f 0) ≤ f (first_least f n)) same (omega arith)
  no_greater few (suc many) le =
      elim (cases_lt many few) [
        | inl above ↦
            let same : suc many ≡ few = omega arith in
            subst (λ (n : ℕ). f (first_least f (suc many)) ≤ f (first_least f n)) same (omega arith)
        | inr within ↦ omega (arith, falls many, no_greater few many within)
      ]

  -- one more number is the first least if it has less, and else it stays the same
  pub taken : (n : ℕ) → f n < f (first_least f n) → first_least f (suc n) ≡ n
  unfolding first_least
  taken n less =
      cond-true (nat_lt (f n) (f (first_least f n))) n (first_least f n) (lt-ltb (f n) (f (first_least f n)) less)

  pub stays : (n : ℕ) → f (first_least f n) ≤ f n → first_least f (suc n) ≡ first_least f n
  unfolding first_least
  stays n more =
      cond-false (nat_lt (f n) (f (first_least f n))) n (first_least f n) (le-ltb (f n) (f (first_least f n)) more)
