-- Sums below a number and over pairs: their order, sums of sums, and sums in the other order.
use Rattle.std.proofs.Common.{◌≡◌, ◌≢◌, ℕ, zero, suc, ◌+◌, ◌*◌, ◌<◌, ◌≤◌, inl, inr, refl, sym, ◌∙◌, arith}
use Rattle.std.proofs.lemmas.Bool.{cases_eq, eq-eqb, ne_eqb}
use Rattle.std.proofs.Math.Nat.{mul-add}
use Rattle.sx_dual.specs.Sums.{between, EachPair, pair_sum, sum_below}

-- ---- below a number

pub sum_below-none : (f : ℕ → ℕ) → sum_below 0 f ≡ 0
unfolding sum_below
sum_below-none f = refl

pub sum_below-more : (n : ℕ) (f : ℕ → ℕ) → sum_below (n + 1) f ≡ sum_below n f + f n
unfolding sum_below
sum_below-more n f = let same : n + 1 ≡ suc n = omega arith in rw same refl

pub sum_below-le : (n : ℕ) (f g : ℕ → ℕ) → ((k : ℕ) → k < n → f k ≤ g k) → sum_below n f ≤ sum_below n g
unfolding sum_below
sum_below-le zero f g le = omega arith
sum_below-le (suc n) f g le =
    omega (arith, sum_below-le n f g (λ k lt. le k (omega arith)), le n (omega arith))

pub sum_below-same : (n : ℕ) (f g : ℕ → ℕ) → ((k : ℕ) → k < n → f k ≡ g k) → sum_below n f ≡ sum_below n g
unfolding sum_below
sum_below-same zero f g same = refl
sum_below-same (suc n) f g same =
    omega (arith, sum_below-same n f g (λ k lt. same k (omega arith)), same n (omega arith))

pub sum_below-add : (n : ℕ) (f g : ℕ → ℕ) → sum_below n (λ k. f k + g k) ≡ sum_below n f + sum_below n g
unfolding sum_below
sum_below-add zero f g = refl
sum_below-add (suc n) f g = omega (arith, sum_below-add n f g)

sum_below-zero : (n : ℕ) → sum_below n (λ k. 0) ≡ 0
unfolding sum_below
sum_below-zero zero = refl
sum_below-zero (suc n) = omega (arith, sum_below-zero n)

pub sum_below-times : (n w : ℕ) (f : ℕ → ℕ) → sum_below n (λ k. w * f k) ≡ w * sum_below n f
unfolding sum_below
sum_below-times zero w f = omega arith
sum_below-times (suc n) w f = omega (arith, sum_below-times n w f, mul-add w (sum_below n f) (f n))

-- two sums, in either order
pub sum_below-swap : (n m : ℕ) (f : ℕ → ℕ → ℕ) →
    sum_below n (λ i. sum_below m (λ j. f i j)) ≡ sum_below m (λ j. sum_below n (λ i. f i j))
unfolding sum_below
sum_below-swap zero m f = sym (sum_below-zero m)
sum_below-swap (suc n) m f =
    omega (arith, sum_below-swap n m f, sum_below-add m (λ j. sum_below n (λ i. f i j)) (λ j. f n j))

-- ---- over pairs

pub between-other : (f : ℕ → ℕ → ℕ) (sell buy : ℕ) → sell ≢ buy → between f sell buy ≡ f sell buy
between-other f sell buy other = rw (ne_eqb sell buy other) refl

pub between-self : (f : ℕ → ℕ → ℕ) (sell buy : ℕ) → sell ≡ buy → between f sell buy ≡ 0
between-self f sell buy same = rw (eq-eqb sell buy same) refl

-- where an asset has nothing with itself, the entry is what the pair has
pub between-all : (f : ℕ → ℕ → ℕ) (sell buy : ℕ) → (sell ≡ buy → f sell buy ≡ 0) → between f sell buy ≡ f sell buy
between-all f sell buy none =
    elim (cases_eq sell buy) [
      | inl same ↦ between-self f sell buy same ∙ sym (none same)
      | inr other ↦ between-other f sell buy other
    ]

pub pair_sum-le : (n : ℕ) (f g : ℕ → ℕ → ℕ) → EachPair n (λ s b. f s b ≤ g s b) → pair_sum n f ≤ pair_sum n g
pair_sum-le n f g le =
    sum_below-le n (λ s. sum_below n (λ b. between f s b)) (λ s. sum_below n (λ b. between g s b)) (λ s s_lt.
    sum_below-le n (λ b. between f s b) (λ b. between g s b) (λ b b_lt.
    elim (cases_eq s b) [
      | inl same ↦ omega (arith, between-self f s b same, between-self g s b same)
      | inr other ↦ omega (arith, between-other f s b other, between-other g s b other, le s b s_lt b_lt other)
    ]))

pub pair_sum-same : (n : ℕ) (f g : ℕ → ℕ → ℕ) → EachPair n (λ s b. f s b ≡ g s b) → pair_sum n f ≡ pair_sum n g
pair_sum-same n f g same =
    omega (
      arith,
      pair_sum-le n f g (λ s b s_lt b_lt other. omega (arith, same s b s_lt b_lt other)),
      pair_sum-le n g f (λ s b s_lt b_lt other. omega (arith, same s b s_lt b_lt other)),
    )

between-add : (f g : ℕ → ℕ → ℕ) (s b : ℕ) → between (λ s b. f s b + g s b) s b ≡ between f s b + between g s b
between-add f g s b =
    elim (cases_eq s b) [
      | inl same ↦ omega (
        arith,
        between-self (λ s b. f s b + g s b) s b same,
        between-self f s b same,
        between-self g s b same,
      )
      | inr other ↦ omega (
        arith,
        between-other (λ s b. f s b + g s b) s b other,
        between-other f s b other,
        between-other g s b other,
      )
    ]

pub pair_sum-add : (n : ℕ) (f g : ℕ → ℕ → ℕ) → pair_sum n (λ s b. f s b + g s b) ≡ pair_sum n f + pair_sum n g
pair_sum-add n f g =
    sum_below-same n (λ s. sum_below n (λ b. between (λ s b. f s b + g s b) s b))
    (λ s. sum_below n (λ b. between f s b) + sum_below n (λ b. between g s b))
    (λ s lt. sum_below-same n (λ b. between (λ s b. f s b + g s b) s b) (λ b. between f s b + between g s b)
    (λ b b_lt. between-add f g s b)
    ∙ sum_below-add n (λ b. between f s b) (λ b. between g s b))
    ∙ sum_below-add n (λ s. sum_below n (λ b. between f s b)) (λ s. sum_below n (λ b. between g s b))
