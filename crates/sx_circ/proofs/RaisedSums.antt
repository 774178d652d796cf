-- The sums of a flow in which one pair trades an amount more.
use Rattle.std.proofs.Common.{◌≡◌, ◌≢◌, ℕ, zero, suc, ◌+◌, ◌<◌, ◌≤◌, ◌⊎◌, inl, inr, refl, sym, ◌∙◌, arith}
use Rattle.std.proofs.lemmas.Bool.{cases_eq, eq-eqb, ne_eqb}
use Rattle.sx_circ.specs.Residual.{Raises, only_at}
use Rattle.sx_dual.specs.Circulation.{bought, sold, traded_value}
use Rattle.sx_dual.specs.Sums.{between, sum_below}
use Rattle.sx_dual.proofs.SumLaws.{between-other, between-self, sum_below-same}

pub only_here : (there amount node : ℕ) → there ≡ node → only_at there amount node ≡ amount
only_here there amount node same = rw (eq-eqb there node same) refl

pub only_elsewhere : (there amount node : ℕ) → there ≢ node → only_at there amount node ≡ 0
only_elsewhere there amount node other = rw (ne_eqb there node other) refl

-- one term is an amount more
one_more : (n : ℕ) (f g : ℕ → ℕ) (place amount : ℕ) → place < n → g place ≡ f place + amount
    → ((k : ℕ) → k < n → k ≢ place → g k ≡ f k)
    → sum_below n g ≡ sum_below n f + amount
unfolding sum_below
one_more zero f g place amount lt more others = absurd (omega arith)
one_more (suc n) f g place amount lt more others =
    elim (cases_eq place n) [
      | inl last ↦
          let here : g n ≡ f n + amount = rw last at more in
          let rest : sum_below n g ≡ sum_below n f =
          sum_below-same n g f (λ k k_lt. others k (omega arith) (λ same. absurd (omega arith))) in
          omega arith
      | inr before ↦
          let rest : sum_below n g ≡ sum_below n f + amount =
          one_more n f g place amount (omega arith) more (λ k k_lt apart. others k (omega arith) apart) in
          let here : g n ≡ f n = others n (omega arith) (λ same. before (sym same)) in
          omega arith
    ]

module _ (n : ℕ) (y z : ℕ → ℕ → ℕ) (sell buy amount : ℕ) (sell_lt : sell < n) (buy_lt : buy < n)
    (apart : sell ≢ buy) (raises : Raises n y z sell buy amount) where
  pair_here : between z sell buy ≡ between y sell buy + amount
  pair_here = rw (between-other z sell buy apart, between-other y sell buy apart) raises.more

  pair_other : (s b : ℕ) → s < n → b < n → (s ≢ sell) ⊎ (b ≢ buy) → between z s b ≡ between y s b
  pair_other s b s_lt b_lt other =
      elim (cases_eq s b) [
        | inl same ↦ between-self z s b same ∙ sym (between-self y s b same)
        | inr differ ↦ rw (between-other z s b differ, between-other y s b differ) (raises.others s b s_lt b_lt other)
      ]

  sold_here : sold n z sell ≡ sold n y sell + amount
  sold_here = one_more n (λ b. between y sell b) (λ b. between z sell b) buy amount buy_lt pair_here
      (λ b b_lt other. pair_other sell b sell_lt b_lt (inr other))

  sold_other : (s : ℕ) → s < n → s ≢ sell → sold n z s ≡ sold n y s
  sold_other s s_lt other = sum_below-same n (λ b. between z s b) (λ b. between y s b)
      (λ b b_lt. pair_other s b s_lt b_lt (inl other))

  bought_here : bought n z buy ≡ bought n y buy + amount
  bought_here = one_more n (λ s. between y s buy) (λ s. between z s buy) sell amount sell_lt pair_here
      (λ s s_lt other. pair_other s buy s_lt buy_lt (inl other))

  bought_other : (b : ℕ) → b < n → b ≢ buy → bought n z b ≡ bought n y b
  bought_other b b_lt other = sum_below-same n (λ s. between z s b) (λ s. between y s b)
      (λ s s_lt. pair_other s b s_lt b_lt (inr other))

  pub sold_raised : (s : ℕ) → s < n → sold n z s ≡ sold n y s + only_at sell amount s
  sold_raised s s_lt =
      elim (cases_eq s sell) [
        | inl same ↦ rw (only_here sell amount s (sym same), same) sold_here
        | inr other ↦
            let none : only_at sell amount s ≡ 0 = only_elsewhere sell amount s (λ same. other (sym same)) in
            let is : sold n z s ≡ sold n y s = sold_other s s_lt other in
            omega arith
      ]

  pub bought_raised : (b : ℕ) → b < n → bought n z b ≡ bought n y b + only_at buy amount b
  bought_raised b b_lt =
      elim (cases_eq b buy) [
        | inl same ↦ rw (only_here buy amount b (sym same), same) bought_here
        | inr other ↦
            let none : only_at buy amount b ≡ 0 = only_elsewhere buy amount b (λ same. other (sym same)) in
            let is : bought n z b ≡ bought n y b = bought_other b b_lt other in
            omega arith
      ]

  pub value_raised : traded_value n z ≡ traded_value n y + amount
  value_raised = one_more n (λ s. sold n y s) (λ s. sold n z s) sell amount sell_lt sold_here
      (λ s s_lt other. sold_other s s_lt other)

  pub entry_rises : (s b : ℕ) → s < n → b < n → y s b ≤ z s b
  entry_rises s b s_lt b_lt =
      elim (cases_eq s sell) [
        | inr other ↦ let is : z s b ≡ y s b = raises.others s b s_lt b_lt (inl other) in omega arith
        | inl sells ↦ elim (cases_eq b buy) [
          | inr other ↦ let is : z s b ≡ y s b = raises.others s b s_lt b_lt (inr other) in omega arith
          | inl buys ↦ rw (sells, buys) (omega (arith, raises.more))
        ]
      ]
