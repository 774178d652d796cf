-- How great entries and their sums are.
use Rattle.std.proofs.Common.{◌≡◌, ℕ, zero, suc, ◌+◌, ◌*◌, ◌^◌, ◌<◌, ◌≤◌, List, inl, inr, refl, arith}
use Rattle.std.proofs.lemmas.Bool.{cases_eq}
use Rattle.std.proofs.lemmas.Nat.{mul-add-lt}
use Rattle.sx_dual.specs.Circulation.{bought, sold}
use Rattle.sx_dual.specs.Sums.{between, sum_below}
use Rattle.sx_dual.specs.Tables.{FlowTable, IsFlow, IsTable, entry_at, value_of}
use Rattle.sx_dual.proofs.SumLaws.{between-other, between-self}

pub entry_range : (n : ℕ) (entries : List ℕ) → IsTable n entries → (sell buy : ℕ) → sell < n → buy < n →
    entry_at n entries sell buy ≤ 2 ^ 102
entry_range n entries table sell buy sell_lt buy_lt =
    table.in_range (sell * n + buy) 0 (omega (arith, mul-add-lt sell n buy n sell_lt buy_lt, table.full))

between_range : (f : ℕ → ℕ → ℕ) (most s b : ℕ) → f s b ≤ most → between f s b ≤ most
between_range f most s b le =
    elim (cases_eq s b) [
      | inl same ↦ omega (arith, between-self f s b same)
      | inr other ↦ omega (arith, between-other f s b other)
    ]

pub sum_below-range : (n most : ℕ) (f : ℕ → ℕ) → ((k : ℕ) → k < n → f k ≤ most) → sum_below n f ≤ n * most
unfolding sum_below
sum_below-range zero most f le = omega arith
sum_below-range (suc n) most f le =
    omega (arith, sum_below-range n most f (λ k lt. le k (omega arith)), le n (omega arith))

-- one of the terms is 0
sum_but_one : (n most : ℕ) (f : ℕ → ℕ) → ((k : ℕ) → k < n → f k ≤ most) → (place : ℕ) → place < n → f place ≡ 0 →
    sum_below n f + most ≤ n * most
unfolding sum_below
sum_but_one zero most f le place lt none = absurd (omega arith)
sum_but_one (suc n) most f le place lt none =
    elim (cases_eq place n) [
      | inl last ↦
          let here : f n ≡ 0 = rw last at none in
          omega (arith, sum_below-range n most f (λ k k_lt. le k (omega arith)))
      | inr other ↦ omega (
        arith,
        sum_but_one n most f (λ k k_lt. le k (omega arith)) place (omega arith) none,
        le n (omega arith),
      )
    ]

pub sold_range : (flow : FlowTable) → IsFlow flow → (asset : ℕ) → asset < flow.assets →
    sold flow.assets (value_of flow) asset ≤ 31 * 2 ^ 102
sold_range flow is asset lt =
    let few = is.assets.few in
    omega (
      arith,
      sum_but_one flow.assets (2 ^ 102) (λ b. between (value_of flow) asset b)
          (λ b b_lt. between_range (value_of flow) (2 ^ 102) asset b
          (entry_range flow.assets flow.values is.values asset b lt b_lt)) asset lt
          (between-self (value_of flow) asset asset refl),
    )

pub bought_range : (flow : FlowTable) → IsFlow flow → (asset : ℕ) → asset < flow.assets →
    bought flow.assets (value_of flow) asset ≤ 31 * 2 ^ 102
bought_range flow is asset lt =
    let few = is.assets.few in
    omega (
      arith,
      sum_but_one flow.assets (2 ^ 102) (λ s. between (value_of flow) s asset)
          (λ s s_lt. between_range (value_of flow) (2 ^ 102) s asset
          (entry_range flow.assets flow.values is.values s asset s_lt lt)) asset lt
          (between-self (value_of flow) asset asset refl),
    )
