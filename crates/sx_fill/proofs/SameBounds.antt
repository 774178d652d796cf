-- Fits, misfits and cuts look at the bounds of pairs alone, so tables with the same bounds tell the same.
use Rattle.std.proofs.Common.{◌≡◌, ℕ, sym, ap, subst, ◌∙◌, arith}
use Rattle.std.specs.Prelude.{if◌then◌else◌}
use Rattle.sx_fill.specs.Bounds.{HasBounds}
use Rattle.sx_dual.specs.declared.misfit.Misfit.{Misfit}
use Rattle.sx_dual.specs.declared.misfit.Misfit.TheVariants.{Outside, Unbalanced, Slack}
use Rattle.sx_dual.specs.Circulation.{IsCirculation, IsWithin}
use Rattle.sx_dual.specs.Cuts.{IsCut, goes_in, goes_out, sum_in, sum_out}
use Rattle.sx_dual.specs.Fit.{Fits, IsTight}
use Rattle.sx_dual.specs.Misfit.{IsFirstPair, IsMisfit}
use Rattle.sx_dual.specs.Sums.{EachPair}
use Rattle.sx_dual.specs.Tables.{BoundsTable, high_of, low_of}
use Rattle.sx_dual.proofs.SumLaws.{pair_sum-same}

-- ---- the same bounds

module _ (n : ℕ) (low high low' high' y : ℕ → ℕ → ℕ) (potential : ℕ → ℕ)
    (lows : EachPair n (λ sell buy. low sell buy ≡ low' sell buy))
    (highs : EachPair n (λ sell buy. high sell buy ≡ high' sell buy)) where
  within_along : EachPair n (λ sell buy. IsWithin low high y sell buy → IsWithin low' high' y sell buy)
  within_along sell buy s b differ w = record {
    at_least = omega (arith, lows sell buy s b differ, w.at_least);
    at_most = omega (arith, highs sell buy s b differ, w.at_most);
  }

  within_back : EachPair n (λ sell buy. IsWithin low' high' y sell buy → IsWithin low high y sell buy)
  within_back sell buy s b differ w = record {
    at_least = omega (arith, lows sell buy s b differ, w.at_least);
    at_most = omega (arith, highs sell buy s b differ, w.at_most);
  }

  tight_along : EachPair n (λ sell buy. IsTight low high y potential sell buy → IsTight low' high' y potential sell buy)
  tight_along sell buy s b differ t = record {
    gaining = λ gains. t.gaining gains ∙ highs sell buy s b differ;
    losing = λ loses. t.losing loses ∙ lows sell buy s b differ;
  }

  tight_back : EachPair n (λ sell buy. IsTight low' high' y potential sell buy → IsTight low high y potential sell buy)
  tight_back sell buy s b differ t = record {
    gaining = λ gains. t.gaining gains ∙ sym (highs sell buy s b differ);
    losing = λ loses. t.losing loses ∙ sym (lows sell buy s b differ);
  }

  circulation_along : IsCirculation n low high y → IsCirculation n low' high' y
  circulation_along c = record {
    within = λ sell buy s b differ. within_along sell buy s b differ (c.within sell buy s b differ);
    balanced = c.balanced;
  }

  fits_along : Fits n low high y potential → Fits n low' high' y potential
  fits_along f = record {
    circulation = circulation_along f.circulation;
    tight = λ sell buy s b differ. tight_along sell buy s b differ (f.tight sell buy s b differ);
  }

  first_along : (P Q : ℕ → ℕ → Type 0) → EachPair n (λ sell buy. P sell buy → Q sell buy)
      → EachPair n (λ sell buy. Q sell buy → P sell buy) → (sell buy : ℕ) → IsFirstPair n P sell buy
      → IsFirstPair n Q sell buy
  first_along P Q along back sell buy first = record {
    sell_below = first.sell_below;
    buy_below = first.buy_below;
    different = first.different;
    fails = λ q. first.fails (back sell buy first.sell_below first.buy_below first.different q);
    earlier = λ s b s_lt b_lt differ before. along s b s_lt b_lt differ (first.earlier s b s_lt b_lt differ before);
  }

  misfit_along : (misfit : Misfit) → IsMisfit n low high y potential misfit → IsMisfit n low' high' y potential misfit
  misfit_along (Outside sell buy least most value) m =
      let first = m.0 in (
        first_along (IsWithin low high y) (IsWithin low' high' y) within_along within_back sell buy first,
        m.1 ∙ lows sell buy first.sell_below first.buy_below first.different,
        m.2 ∙ highs sell buy first.sell_below first.buy_below first.different,
        m.3,
      )
  misfit_along (Unbalanced asset out into) m =
      (λ sell buy s b differ. within_along sell buy s b differ (m.0 sell buy s b differ), m.1, m.2, m.3)
  misfit_along (Slack sell buy gain value) m = (
    circulation_along m.0,
    first_along (IsTight low high y potential) (IsTight low' high' y potential) tight_along tight_back sell buy m.1,
    m.2,
    m.3,
  )

  cut_along : (set : ℕ) → IsCut n low high set → IsCut n low' high' set
  cut_along set is =
      let into : sum_in n low set ≡ sum_in n low' set =
      pair_sum-same n (λ s b. if goes_in set s b then low s b else 0) (λ s b. if goes_in set s b then low' s b else 0)
      (λ s b s_lt b_lt differ. ap (λ (x : ℕ). if goes_in set s b then x else 0) (lows s b s_lt b_lt differ)) in
      let out : sum_out n high set ≡ sum_out n high' set =
      pair_sum-same n (λ s b. if goes_out set s b then high s b else 0)
      (λ s b. if goes_out set s b then high' s b else 0)
      (λ s b s_lt b_lt differ. ap (λ (x : ℕ). if goes_out set s b then x else 0) (highs s b s_lt b_lt differ)) in
      omega (arith, is)

-- ---- tables that have the bounds

module _ (n : ℕ) (low high : ℕ → ℕ → ℕ) (bounds : BoundsTable) (has : HasBounds n low high bounds) where
  pub fits_from : (y : ℕ → ℕ → ℕ) (potential : ℕ → ℕ) → Fits bounds.assets (low_of bounds) (high_of bounds) y potential
      → Fits n low high y potential
  fits_from y potential f =
      fits_along n (low_of bounds) (high_of bounds) low high y potential has.is_low has.is_high
      (subst (λ (m : ℕ). Fits m (low_of bounds) (high_of bounds) y potential) has.same_assets f)

  pub misfit_from : (y : ℕ → ℕ → ℕ) (potential : ℕ → ℕ) (misfit : Misfit)
      → IsMisfit bounds.assets (low_of bounds) (high_of bounds) y potential misfit
      → IsMisfit n low high y potential misfit
  misfit_from y potential misfit m =
      misfit_along n (low_of bounds) (high_of bounds) low high y potential has.is_low has.is_high misfit
      (subst (λ (m : ℕ). IsMisfit m (low_of bounds) (high_of bounds) y potential misfit) has.same_assets m)

  pub cut_from : (set : ℕ) → IsCut bounds.assets (low_of bounds) (high_of bounds) set → IsCut n low high set
  cut_from set is =
      cut_along n (low_of bounds) (high_of bounds) low high low (λ asset. 0) has.is_low has.is_high set
      (subst (λ (m : ℕ). IsCut m (low_of bounds) (high_of bounds) set) has.same_assets is)

  pub cut_back : (set : ℕ) → IsCut n low high set → IsCut bounds.assets (low_of bounds) (high_of bounds) set
  cut_back set is =
      subst (λ (m : ℕ). IsCut m (low_of bounds) (high_of bounds) set) (sym has.same_assets)
      (cut_along n low high (low_of bounds) (high_of bounds) low (λ asset. 0)
      (λ sell buy s b differ. sym (has.is_low sell buy s b differ))
      (λ sell buy s b differ. sym (has.is_high sell buy s b differ)) set is)
