-- What pairs trade, from tables of the bounds.
use Rattle.std.proofs.Common.{◌≡◌, ℕ, zero, suc, ◌<◌, ◌^◌, List, Option, None, inl, inr, refl, sym, subst, ◌∙◌}
use Rattle.std.proofs.Common.{arith}
use Rattle.std.specs.Prelude.{if◌then◌else◌, is_some}
use Rattle.std.proofs.lemmas.Bool.{cases_Bool, cases_eq}
use Rattle.sx_fill.specs.Bounds.{HasBounds}
use Rattle.sx_fill.proofs.SameBounds.{cut_from, fits_from}
use Rattle.sx_block.specs.Block.{CutFits}
use Rattle.sx_block.specs.Validity.{CutHolds}
use Rattle.sx_dual.specs.declared.cut.Cut.{Cut}
use Rattle.sx_dual.specs.Cuts.{goes_in, sum_in}
use Rattle.sx_dual.specs.Sums.{EachPair, between, sum_below}
use Rattle.sx_dual.specs.Tables.{BoundsTable, FlowTable, high_of, low_of, potential_of, value_of}
use Rattle.sx_dual.proofs.SumLaws.{between-other, between-self, sum_below-same}
use Rattle.sx_dual.specs.Cuts.{IsCutOf}
use Rattle.sx_level.specs.Solved.{IsBest}
use Rattle.sx_clear.specs.declared.trade.Trade.{Trade}
use Rattle.sx_clear.specs.TradedWithin.{HasNoLow, IsFreeTrade, IsTrade}

-- ---- bounds with no lower one

zeros : (n : ℕ) → sum_below n (λ k. 0) ≡ 0
unfolding sum_below
zeros zero = refl
zeros (suc n) = omega (arith, zeros n)

-- nothing must go into any set
none_in : (n : ℕ) (low : ℕ → ℕ → ℕ) (set : ℕ) → EachPair n (λ sell buy. low sell buy ≡ 0) → sum_in n low set ≡ 0
none_in n low set none =
    let entering : ℕ → ℕ → ℕ = λ sell buy. if goes_in set sell buy then low sell buy else 0 in
    let entry : (sell buy : ℕ) → sell < n → buy < n → between entering sell buy ≡ 0 =
    λ sell buy s b.
    elim (cases_eq sell buy) [
      | inl same ↦ between-self entering sell buy same
      | inr differ ↦
          between-other entering sell buy differ
          ∙ elim (cases_Bool (goes_in set sell buy)) [
            | inl enters ↦ rw enters (none sell buy s b differ)
            | inr stays ↦ rw stays refl
          ]
    ] in
    sum_below-same n (λ sell. sum_below n (λ buy. between entering sell buy)) (λ sell. 0)
    (λ sell s. sum_below-same n (λ buy. between entering sell buy) (λ buy. 0) (λ buy b. entry sell buy s b) ∙ zeros n)
    ∙ zeros n

pub no_cut : (bounds : BoundsTable) (set : ℕ) → HasNoLow bounds → IsCutOf bounds set → ⊥
no_cut bounds set none is = omega (arith, is.cut, none_in bounds.assets (low_of bounds) set none)

pub no_low : (n : ℕ) (high : ℕ → ℕ → ℕ) (free : BoundsTable) → HasBounds n (λ sell buy. 0) high free → HasNoLow free
no_low n high free has sell buy s b differ =
    has.is_low sell buy (omega (arith, s, has.same_assets)) (omega (arith, b, has.same_assets)) differ

pub own_bounds : (bounds : BoundsTable) → HasBounds bounds.assets (low_of bounds) (high_of bounds) bounds
own_bounds bounds = record {
  same_assets = refl;
  is_low = λ sell buy s b differ. refl;
  is_high = λ sell buy s b differ. refl;
}

-- ---- trades

best_from : (n : ℕ) (low high : ℕ → ℕ → ℕ) (bounds : BoundsTable) (flow : FlowTable) (potentials : List ℕ)
    → HasBounds n low high bounds → IsBest bounds.assets (low_of bounds) (high_of bounds) flow potentials
    → IsBest n low high flow potentials
best_from n low high bounds flow potentials has best = record {
  same_assets = best.same_assets ∙ has.same_assets;
  one_potential = best.one_potential ∙ has.same_assets;
  fits = fits_from n low high bounds has (value_of flow) (potential_of potentials) best.fits;
}

-- where lower bounds are kept
pub kept_trade : (n : ℕ) (low high : ℕ → ℕ → ℕ) (bounds : BoundsTable) (trade : Trade)
    → HasBounds n low high bounds
    → IsBest bounds.assets (low_of bounds) (high_of bounds) trade.flow trade.potentials
    → trade.dropped ≡ None → IsTrade n low high trade
kept_trade n low high bounds trade has best kept = record {
  best = subst (λ (o : Option Cut). IsBest n (λ sell buy. if is_some o then 0 else low sell buy) high trade.flow
      trade.potentials) (sym kept) (best_from n low high bounds trade.flow trade.potentials has best);
  set = subst (CutFits n) (sym kept) tt;
  cut = subst (CutHolds n low high) (sym kept) tt;
}

-- and where they are dropped
pub dropped_trade : (n : ℕ) (low high : ℕ → ℕ → ℕ) (bounds free : BoundsTable) (trade : Trade) (cut : Cut)
    → HasBounds n low high bounds → HasBounds n (λ sell buy. 0) high free → IsCutOf bounds cut.0
    → IsFreeTrade free cut trade → IsTrade n low high trade
dropped_trade n low high bounds free trade cut has has_free is traded = record {
  best = subst (λ (o : Option Cut). IsBest n (λ sell buy. if is_some o then 0 else low sell buy) high trade.flow
      trade.potentials) (sym traded.dropped)
      (best_from n (λ sell buy. 0) high free trade.flow trade.potentials has_free traded.best);
  set = subst (CutFits n) (sym traded.dropped) (subst (λ (m : ℕ). cut.0 < 2 ^ m) has.same_assets is.within);
  cut = subst (CutHolds n low high) (sym traded.dropped) (cut_from n low high bounds has cut.0 is.cut);
}
