-- Weak duality: a flow that fits some potentials trades as much as any circulation within its bounds.
use Rattle.std.proofs.Common.{◌≡◌, ℕ, ◌+◌, ◌-◌, ◌*◌, ◌<◌, ◌≤◌, pos, ◌<ℤ◌, inl, inr, refl, sym, ap, ◌∙◌, arith}
use Rattle.std.proofs.lemmas.Bool.{cases_eq, cases_order}
use Rattle.std.proofs.lemmas.Int.{ints}
use Rattle.std.proofs.Math.Nat.{mul-le-mul_right}
use Rattle.sx_dual.specs.Circulation.{IsBalanced, IsGreatest, bought, sold, traded_value}
use Rattle.sx_dual.specs.Fit.{Fits, gain_of}
use Rattle.sx_dual.specs.Sums.{between, pair_sum, sum_below}
use Rattle.sx_dual.proofs.SumLaws.{between-other, between-self, pair_sum-add, pair_sum-le, sum_below-same}
use Rattle.sx_dual.proofs.SumLaws.{sum_below-swap, sum_below-times}

between-times_sold : (w : ℕ → ℕ) (y : ℕ → ℕ → ℕ) (s b : ℕ) → between (λ s b. w s * y s b) s b ≡ w s * between y s b
between-times_sold w y s b =
    elim (cases_eq s b) [
      | inl same ↦ rw (between-self (λ s b. w s * y s b) s b same, between-self y s b same) (omega arith)
      | inr other ↦ rw (between-other (λ s b. w s * y s b) s b other, between-other y s b other) refl
    ]

between-times_bought : (w : ℕ → ℕ) (y : ℕ → ℕ → ℕ) (s b : ℕ) → between (λ s b. w b * y s b) s b ≡ w b * between y s b
between-times_bought w y s b =
    elim (cases_eq s b) [
      | inl same ↦ rw (between-self (λ s b. w b * y s b) s b same, between-self y s b same) (omega arith)
      | inr other ↦ rw (between-other (λ s b. w b * y s b) s b other, between-other y s b other) refl
    ]

-- weighed by asset, a balanced flow has the same sum by what is sold and by what is bought
pub weighed : (n : ℕ) (w : ℕ → ℕ) (y : ℕ → ℕ → ℕ) → ((asset : ℕ) → asset < n → IsBalanced n y asset)
    → pair_sum n (λ s b. w s * y s b) ≡ pair_sum n (λ s b. w b * y s b)
weighed n w y balanced =
    let by_sold : pair_sum n (λ s b. w s * y s b) ≡ sum_below n (λ s. w s * sold n y s) =
    sum_below-same n (λ s. sum_below n (λ b. between (λ s b. w s * y s b) s b)) (λ s. w s * sold n y s) (λ s lt.
    sum_below-same n (λ b. between (λ s b. w s * y s b) s b) (λ b. w s * between y s b)
    (λ b b_lt. between-times_sold w y s b)
    ∙ sum_below-times n (w s) (λ b. between y s b)) in
    let by_bought : sum_below n (λ b. sum_below n (λ s. between (λ s b. w b * y s b) s b)) ≡ sum_below n
    (λ b. w b * bought n y b) =
    sum_below-same n (λ b. sum_below n (λ s. between (λ s b. w b * y s b) s b)) (λ b. w b * bought n y b) (λ b lt.
    sum_below-same n (λ s. between (λ s b. w b * y s b) s b) (λ s. w b * between y s b)
    (λ s s_lt. between-times_bought w y s b)
    ∙ sum_below-times n (w b) (λ s. between y s b)) in
    by_sold
    ∙ sum_below-same n (λ s. w s * sold n y s) (λ s. w s * bought n y s) (λ s lt. ap (λ x. w s * x) (balanced s lt))
    ∙ sym by_bought
    ∙ sym (sum_below-swap n n (λ s b. between (λ s b. w b * y s b) s b))

-- moving a pair up by d gains at most what the sold asset's potential allows
up_le : (p q x d : ℕ) → q ≤ p → x + p * x + q * (x + d) ≤ (x + d) + p * (x + d) + q * x
up_le p q x d le = let by_d : q * d ≤ p * d = mul-le-mul_right d le in omega arith

down_le : (p q x d : ℕ) → 1 + p ≤ q → (x + d) + p * (x + d) + q * x ≤ x + p * x + q * (x + d)
down_le p q x d le = let by_d : (1 + p) * d ≤ q * d = mul-le-mul_right d le in omega arith

-- at a pair, a flow that fits is ahead of each other one by the gain
tight_le : (p q low high y other : ℕ) → low ≤ y → y ≤ high → low ≤ other → other ≤ high
    → (q < 1 + p → y ≡ high) → (1 + p < q → y ≡ low)
    → other + p * other + q * y ≤ y + p * y + q * other
tight_le p q low high y other a b c d gaining losing =
    elim (cases_order q (1 + p)) [
      | inl same ↦ rw same (omega arith)
      | inr (inl gains) ↦
          let full = gaining gains in
          let apart : other + (y - other) ≡ y = omega arith in
          rw apart at (up_le p q other (y - other) (omega arith))
      | inr (inr loses) ↦
          let least = losing loses in
          let apart : y + (other - y) ≡ other = omega arith in
          rw apart at (down_le p q y (other - y) (omega arith))
    ]

-- above 0 and below 0, over whole numbers
gain_above : (potential : ℕ → ℕ) (s b : ℕ) → potential b < 1 + potential s → pos 0 <ℤ gain_of potential s b
gain_above potential s b lt = omega (arith, ints)

gain_below : (potential : ℕ → ℕ) (s b : ℕ) → 1 + potential s < potential b → gain_of potential s b <ℤ pos 0
gain_below potential s b lt = omega (arith, ints)

-- what a flow gains less what it pays, with the other flow's payment moved to its side
gained : (ℕ → ℕ) → (ℕ → ℕ → ℕ) → (ℕ → ℕ → ℕ) → ℕ → ℕ → ℕ
gained w y other s b = y s b + w s * y s b + w b * other s b

gained_sum : (n : ℕ) (w : ℕ → ℕ) (y other : ℕ → ℕ → ℕ)
    → pair_sum n (gained w y other) ≡ traded_value n y + pair_sum n (λ s b. w s * y s b) + pair_sum n
    (λ s b. w b * other s b)
unfolding gained
gained_sum n w y other =
    pair_sum-add n (λ s b. y s b + w s * y s b) (λ s b. w b * other s b)
    ∙ ap (λ x. x + pair_sum n (λ s b. w b * other s b)) (pair_sum-add n y (λ s b. w s * y s b))

pub fit_is_greatest : (n : ℕ) (low high y : ℕ → ℕ → ℕ) (potential : ℕ → ℕ) → Fits n low high y potential →
    IsGreatest n low high y
unfolding gained
fit_is_greatest n low high y potential fits =
    record {
      circulation = fits.circulation;
      greatest = λ other circulation.
          let ahead : pair_sum n (gained potential other y) ≤ pair_sum n (gained potential y other) =
          pair_sum-le n (gained potential other y) (gained potential y other) (λ s b s_lt b_lt different.
          let mine = fits.circulation.within s b s_lt b_lt different in
          let its = circulation.within s b s_lt b_lt different in
          let tight = fits.tight s b s_lt b_lt different in
          tight_le (potential s) (potential b) (low s b) (high s b) (y s b) (other s b) mine.at_least mine.at_most
          its.at_least its.at_most
          (λ lt. tight.gaining (gain_above potential s b lt)) (λ lt. tight.losing (gain_below potential s b lt)))
          in
          omega (
            arith,
            gained_sum n potential y other,
            gained_sum n potential other y,
            weighed n potential y fits.circulation.balanced,
            weighed n potential other circulation.balanced,
          );
    }

pub one_greatest_value : (n : ℕ) (low high y other : ℕ → ℕ → ℕ) → IsGreatest n low high y →
    IsGreatest n low high other → traded_value n y ≡ traded_value n other
one_greatest_value n low high y other one two =
    omega (arith, one.greatest other two.circulation, two.greatest y one.circulation)
