-- What holds when no step leads above a height: the flow fits the heights.
use Rattle.std.proofs.Common.{◌≡◌, ◌≢◌, ℕ, pos, ◌+◌, ◌*◌, ◌/◌, ◌%◌, ◌^◌, ◌<◌, ◌≤◌, ◌<ℤ◌, List, inl, inr}
use Rattle.std.proofs.Common.{slice_index, arith}
use Rattle.std.proofs.lemmas.Bool.{cases_eq, cases_order}
use Rattle.std.proofs.lemmas.Int.{ints}
use Rattle.std.proofs.lemmas.List.{get_or_default}
use Rattle.std.proofs.lemmas.Nat.{div_below}
use Rattle.sx_circ.specs.declared.walk.Walk.{Walk}
use Rattle.sx_circ.specs.Labels.{AreAllLevel, height_of}
use Rattle.sx_circ.specs.Residual.{KeepsBalances, KeepsBounds}
use Rattle.sx_dual.specs.Circulation.{IsCirculation, sold, traded_value}
use Rattle.sx_dual.specs.Fit.{Fits, gain_of}
use Rattle.sx_dual.specs.Sums.{between}
use Rattle.sx_dual.specs.Tables.{AreBounds, BoundsTable, FlowTable, IsFlow, IsTable, entry_at, high_of, low_of}
use Rattle.sx_dual.specs.Tables.{potential_of}
use Rattle.sx_dual.proofs.Ranges.{entry_range, sum_below-range}
use Rattle.sx_dual.proofs.SumLaws.{between-other, between-self}

gain_le : (p : ℕ → ℕ) (s b : ℕ) → p s + 1 ≤ p b → pos 0 <ℤ gain_of p s b → ⊥
gain_le p s b le gains = omega (arith, ints)

gain_ge : (p : ℕ → ℕ) (s b : ℕ) → p b ≤ p s + 1 → gain_of p s b <ℤ pos 0 → ⊥
gain_ge p s b le loses = omega (arith, ints)

pub level_fits : (bounds : BoundsTable) (start values : List ℕ) (walks : List Walk) (potentials : List ℕ)
    → IsCirculation bounds.assets (low_of bounds) (high_of bounds) (entry_at bounds.assets start)
    → KeepsBounds bounds values
    → KeepsBalances bounds.assets (entry_at bounds.assets start) (entry_at bounds.assets values)
    → AreAllLevel bounds.assets (low_of bounds) (high_of bounds) (entry_at bounds.assets values) walks
    → ((k : ℕ) → k < bounds.assets → slice_index potentials k ≡ height_of walks k)
    → Fits bounds.assets (low_of bounds) (high_of bounds) (entry_at bounds.assets values) (potential_of potentials)
level_fits bounds start values walks potentials circulation keeps balances level heights =
    let n = bounds.assets in
    record {
      circulation = record {
        within = λ s b s_lt b_lt _. record {
          at_least = keeps.at_least s b s_lt b_lt;
          at_most = keeps.at_most s b s_lt b_lt;
        };
        balanced = λ asset lt. omega (arith, balances asset lt, circulation.balanced asset lt);
      };
      tight = λ s b s_lt b_lt apart. record {
        gaining = λ gains.
            elim (cases_order (entry_at n values s b) (high_of bounds s b)) [
              | inl same ↦ same
              | inr (inl less) ↦
                  absurd
                  (gain_le (potential_of potentials) s b
                  (omega (arith, heights s s_lt, heights b b_lt, (level s s_lt b b_lt apart).up less)) gains)
              | inr (inr more) ↦ absurd (omega (arith, keeps.at_most s b s_lt b_lt))
            ];
        losing = λ loses.
            elim (cases_order (entry_at n values s b) (low_of bounds s b)) [
              | inl same ↦ same
              | inr (inl less) ↦ absurd (omega (arith, keeps.at_least s b s_lt b_lt))
              | inr (inr more) ↦
                  let turned : b ≢ s = omega arith in
                  absurd
                  (gain_ge (potential_of potentials) s b
                  (omega (arith, heights s s_lt, heights b b_lt, (level b b_lt s s_lt turned).down more)) loses)
            ];
      };
    }

-- ---- flows and lists of values

pub flow_keeps : (bounds : BoundsTable) (flow : FlowTable) → AreBounds bounds → IsFlow flow
    → flow.assets ≡ bounds.assets
    → IsCirculation bounds.assets (low_of bounds) (high_of bounds) (entry_at flow.assets flow.values)
    → KeepsBounds bounds flow.values
flow_keeps bounds flow are is same circulation =
    let n = bounds.assets in
    let table : IsTable n flow.values = rw same at is.values in
    record {
      full = table.full;
      at_least = λ s b s_lt b_lt.
          elim (cases_eq s b) [
            | inl equal ↦
                let least : entry_at n bounds.low b b ≡ 0 = are.low.diagonal b b_lt in rw (equal, least) (omega arith)
            | inr other ↦ rw same at (circulation.within s b s_lt b_lt other).at_least
          ];
      at_most = λ s b s_lt b_lt.
          elim (cases_eq s b) [
            | inl equal ↦
                let value : entry_at n flow.values b b ≡ 0 = table.diagonal b b_lt in
                rw (equal, value) (omega arith)
            | inr other ↦ rw same at (circulation.within s b s_lt b_lt other).at_most
          ];
    }

pub kept_flow : (bounds : BoundsTable) (values : List ℕ) → AreBounds bounds → KeepsBounds bounds values
    → IsFlow (record { assets = bounds.assets; values = values })
kept_flow bounds values are keeps =
    let n = bounds.assets in
    let some = are.assets.some in
    record {
      assets = are.assets;
      values = record {
        full = keeps.full;
        in_range = λ k d lt.
            let row : k / n < n = div_below k n n (omega arith) (omega (arith, keeps.full)) in
            let column : k % n < n = omega arith in
            let place : (k / n) * n + k % n ≡ k = omega arith in
            let most : entry_at n values (k / n) (k % n) ≤ 2 ^ 102 =
            omega (
              arith,
              keeps.at_most (k / n) (k % n) row column,
              entry_range n bounds.high are.high (k / n) (k % n) row column,
            ) in
            rw (get_or_default values k d 0 lt) (rw place at most);
        diagonal = λ asset lt.
            let high : entry_at n bounds.high asset asset ≡ 0 = are.high.diagonal asset lt in
            omega (arith, keeps.at_most asset asset lt lt);
      };
    }

-- ---- the traded value stays below what all pairs may trade

between_range : (f : ℕ → ℕ → ℕ) (most s b : ℕ) → f s b ≤ most → between f s b ≤ most
between_range f most s b le =
    elim (cases_eq s b) [
      | inl same ↦ omega (arith, between-self f s b same)
      | inr other ↦ omega (arith, between-other f s b other)
    ]

pub value_bounded : (bounds : BoundsTable) (values : List ℕ) → AreBounds bounds → KeepsBounds bounds values
    → traded_value bounds.assets (entry_at bounds.assets values) ≤ bounds.assets * (bounds.assets * 2 ^ 102)
value_bounded bounds values are keeps =
    let n = bounds.assets in
    let y = entry_at n values in
    sum_below-range n (n * 2 ^ 102) (λ s. sold n y s)
    (λ s s_lt. sum_below-range n (2 ^ 102) (λ b. between y s b)
    (λ b b_lt. between_range y (2 ^ 102) s b
    (omega (arith, keeps.at_most s b s_lt b_lt, entry_range n bounds.high are.high s b s_lt b_lt))))
