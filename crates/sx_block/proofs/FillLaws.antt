-- What offers give and get, against the value that they trade.
use Rattle.std.proofs.Common.{◌≡◌, ◌≢◌, ℕ, suc, ◌+◌, ◌-◌, ◌*◌, ◌/◌, ◌%◌, ◌<◌, ◌≤◌, cond, eqb, ◌&&◌, List, [], ◌∷◌}
use Rattle.std.proofs.Common.{sum_by, refl, sym, ap, subst, ◌∙◌, inl, inr, arith}
use Rattle.std.specs.Cmp.{both_ways}
use Rattle.std.specs.List.{AllByRecursion}
use Rattle.std.proofs.Math.Bool.{and_comm}
use Rattle.std.proofs.Math.Nat.{div-add-mod, lt_of_mul-lt-mul_left, min-le_right, mod-lt, mul_comm}
use Rattle.std.proofs.Math.Nat.{le_of_mul-le-mul_left}
use Rattle.std.proofs.lemmas.Bool.{cases_Bool, eqb-true, eq-eqb, eqb-false}
use Rattle.std.proofs.lemmas.Grind.{div_ceil_times}
use Rattle.std.proofs.lemmas.List.Elements.{recursion_from_All}
use Rattle.std.proofs.lemmas.List.Sums.{sum_by-cons}
use Rattle.sx_block.specs.Effects.{IsTradable}
use Rattle.sx_dual.specs.Circulation.{bought, sold}
use Rattle.sx_dual.specs.Sums.{between}
use Rattle.sx_dual.proofs.SumLaws.{sum_below-same}
use Rattle.sx_block.specs.EffectLaws.{GivesWhatItHas, GivesLessThanOneMore, GetsLessThanOneLess}
use Rattle.sx_block.specs.EffectLaws.{RoundingIsNeverNegative}
use Rattle.sx_block.proofs.ListSums.{grouped, sum_by-filter}
use Rattle.sx_block.proofs.PairFills.{pair_trades}
use Rattle.sx_ledger.specs.declared.offer.Offer.{Offer}
use Rattle.sx_ledger.specs.declared.parts.Parts.{Parts}
use Rattle.sx_ledger.specs.Bounds.{price_of}
use Rattle.sx_ledger.specs.Fills.{given, gives, gets, got, value_of}
use Rattle.sx_ledger.specs.Ledger.{IsLedger, IsOffer, assets_of}
use Rattle.sx_ledger.proofs.OfferOrder.{Rising, rising_is}
use Rattle.sx_price.specs.Rounding.{rounded_up, rounded_down}

-- ---- one offer

pub up_is : (value price : ℕ) → 0 < price
    → (value ≤ price * rounded_up value price) × (price * rounded_up value price < value + price)
up_is value price some =
    let t = div_ceil_times value price some in
    let turned : price * rounded_up value price ≡ rounded_up value price * price =
    mul_comm price (rounded_up value price) in
    (omega (arith, t.0), omega (arith, t.1))

down_is : (value price : ℕ) → 0 < price
    → (price * rounded_down value price ≤ value) × (value < price * rounded_down value price + price)
down_is value price some =
    let whole : price * (value / price) + value % price ≡ value = div-add-mod value price in
    let part : value % price < price = mod-lt value some in
    (omega arith, omega arith)

pub gives_more : GivesLessThanOneMore
gives_more prices flow offers offer some = up_is (value_of prices flow offers offer) (price_of prices offer.sell) some

pub gets_less : GetsLessThanOneLess
gets_less prices flow offers offer some = down_is (value_of prices flow offers offer) (price_of prices offer.buy) some

pub gives_has : GivesWhatItHas
gives_has prices flow offers offer some =
    let price = price_of prices offer.sell in
    let value = value_of prices flow offers offer in
    let within : value ≤ price * offer.amount =
    min-le_right (flow offer.sell offer.buy - price * _) (price * offer.amount) in
    let up = (up_is value price some).1 in
    let next : price * suc offer.amount ≡ price * offer.amount + price = omega arith in
    let below : price * gives prices flow offers offer < price * suc offer.amount = omega arith in
    omega (arith, lt_of_mul-lt-mul_left price below)

-- ---- all offers of an asset

-- a sum of values is within the price of a sum of units, where each value is
within_price : {X : Type 0} (price : ℕ) (f g : X → ℕ) (xs : List X) → AllByRecursion (λ x. f x ≤ price * g x) xs
    → sum_by f xs ≤ price * sum_by g xs
within_price price f g [] all = omega arith
within_price price f g (x ∷ xs) all =
    let rest = within_price price f g xs all.1 in
    let here : f x ≤ price * g x = all.0 in
    let split : price * sum_by g (x ∷ xs) ≡ price * g x + price * sum_by g xs = rw (sum_by-cons g x xs) (omega arith) in
    omega (arith, sum_by-cons f x xs)

reaches_price : {X : Type 0} (price : ℕ) (f g : X → ℕ) (xs : List X) → AllByRecursion (λ x. price * g x ≤ f x) xs
    → price * sum_by g xs ≤ sum_by f xs
reaches_price price f g [] all = omega arith
reaches_price price f g (x ∷ xs) all =
    let rest = reaches_price price f g xs all.1 in
    let here : price * g x ≤ f x = all.0 in
    let split : price * sum_by g (x ∷ xs) ≡ price * g x + price * sum_by g xs = rw (sum_by-cons g x xs) (omega arith) in
    omega (arith, sum_by-cons f x xs)

same_either_way : (a b : ℕ) → eqb a b ≡ eqb b a
same_either_way a b =
    both_ways (eqb a b) (eqb b a) (λ e. eq-eqb b a (sym (eqb-true a b e))) (λ e. eq-eqb a b (sym (eqb-true b a e)))

module _ (parts : Parts) (prices : List ℕ) (flow : ℕ → ℕ → ℕ) (is : IsLedger parts)
    (fits : IsTradable parts prices flow) (asset : ℕ) (lt : asset < assets_of parts) where
  abbrev offers : List Offer
  offers = parts.offers

  abbrev n : ℕ
  n = assets_of parts

  abbrev price : ℕ
  price = price_of prices asset

  abbrev value : Offer → ℕ
  value = value_of prices flow offers

  pub price_above : 0 < price
  price_above = let same = fits.same_assets in let p = fits.in_range asset 0 (omega arith) in omega (arith, p.0)

  up : Rising offers
  up = rising_is offers is.by_key

  bought_of : (os : List Offer) → AllByRecursion (IsOffer n parts.accounts) os
      → AllByRecursion (λ o. (o.buy < n) × (o.buy ≢ o.sell)) os
  bought_of [] all = tt
  bought_of (o ∷ os) all = ((all.0.buy, all.0.differ), bought_of os all.1)

  sold_of : (os : List Offer) → AllByRecursion (IsOffer n parts.accounts) os
      → AllByRecursion (λ o. (o.sell < n) × (o.sell ≢ o.buy)) os
  sold_of [] all = tt
  sold_of (o ∷ os) all = ((all.0.sell, λ e. all.0.differ (sym e)), sold_of os all.1)

  offers_are : AllByRecursion (IsOffer n parts.accounts) offers
  offers_are = recursion_from_All (IsOffer n parts.accounts) offers is.offers

  -- the offers that sell the asset trade what is sold of it
  sold_is : sold n flow asset ≡ sum_by (λ o. cond (eqb o.sell asset) (value o) 0) offers
  sold_is =
      sum_below-same n (λ buy. between flow asset buy)
      (λ buy. cond (eqb asset buy) 0 (sum_by (λ o. cond (eqb o.sell asset && eqb o.buy buy) (value o) 0) offers))
      (λ buy below. elim (cases_Bool (eqb asset buy)) [
        | inl same ↦ rw same refl
        | inr other ↦ rw other
            (sym (pair_trades prices flow offers asset buy up
            (fits.within asset buy lt below (eqb-false asset buy other)))
            ∙ sum_by-filter value (λ o. eqb o.sell asset && eqb o.buy buy) offers)
      ])
      ∙ grouped (λ o. o.sell) (λ o. o.buy) value asset n offers (bought_of offers offers_are)

  bought_is : bought n flow asset ≡ sum_by (λ o. cond (eqb o.buy asset) (value o) 0) offers
  bought_is =
      sum_below-same n (λ sell. between flow sell asset)
      (λ sell. cond (eqb asset sell) 0 (sum_by (λ o. cond (eqb o.buy asset && eqb o.sell sell) (value o) 0) offers))
      (λ sell below. elim (cases_Bool (eqb asset sell)) [
        | inl same ↦ rw (same_either_way sell asset, same) refl
        | inr other ↦ rw (same_either_way sell asset, other)
            (sym (pair_trades prices flow offers sell asset up
            (fits.within sell asset below lt (λ e. eqb-false asset sell other (sym e))))
            ∙ sum_by-filter value (λ o. eqb o.sell sell && eqb o.buy asset) offers
            ∙ turned sell offers)
      ])
      ∙ grouped (λ o. o.buy) (λ o. o.sell) value asset n offers (sold_of offers offers_are)
    where
      turned : (sell : ℕ) (os : List Offer)
          → sum_by (λ o. cond (eqb o.sell sell && eqb o.buy asset) (value o) 0) os ≡ sum_by
          (λ o. cond (eqb o.buy asset && eqb o.sell sell) (value o) 0) os
      turned sell [] = refl
      turned sell (o ∷ os) =
          let here : cond (eqb o.sell sell && eqb o.buy asset) (value o) 0 ≡ cond
          (eqb o.buy asset && eqb o.sell sell) (value o) 0 =
          rw (and_comm (eqb o.sell sell) (eqb o.buy asset)) refl in
          omega (
            arith,
            sum_by-cons (λ o. cond (eqb o.sell sell && eqb o.buy asset) (value o) 0) o os,
            sum_by-cons (λ o. cond (eqb o.buy asset && eqb o.sell sell) (value o) 0) o os,
            turned sell os,
          )

  given_each : (os : List Offer)
      → AllByRecursion (λ o. cond (eqb o.sell asset) (value o) 0 ≤ price * cond (eqb o.sell asset)
      (gives prices flow offers o) 0) os
  given_each [] = tt
  given_each (o ∷ os) = (
    elim (cases_Bool (eqb o.sell asset)) [
      | inl ours ↦
          let same : o.sell ≡ asset = eqb-true o.sell asset ours in
          let reach : value o ≤ price_of prices o.sell * gives prices flow offers o =
          (up_is (value o) (price_of prices o.sell)
          (subst (λ (a : ℕ). 0 < price_of prices a) (sym same) price_above)).0 in
          rw ours (subst (λ (p : ℕ). value o ≤ p * gives prices flow offers o) (ap (price_of prices) same) reach)
      | inr others ↦ rw others (omega arith)
    ],
    given_each os,
  )

  got_each : (os : List Offer)
      → AllByRecursion (λ o. price * cond (eqb o.buy asset) (gets prices flow offers o) 0 ≤ cond (eqb o.buy asset)
      (value o) 0) os
  got_each [] = tt
  got_each (o ∷ os) = (
    elim (cases_Bool (eqb o.buy asset)) [
      | inl ours ↦
          let same : o.buy ≡ asset = eqb-true o.buy asset ours in
          let within : price_of prices o.buy * gets prices flow offers o ≤ value o =
          (down_is (value o) (price_of prices o.buy)
          (subst (λ (a : ℕ). 0 < price_of prices a) (sym same) price_above)).0 in
          rw ours (subst (λ (p : ℕ). p * gets prices flow offers o ≤ value o) (ap (price_of prices) same) within)
      | inr others ↦ rw others (omega arith)
    ],
    got_each os,
  )

  sold_within : sold n flow asset ≤ price * given prices flow offers asset
  sold_within =
      let out =
      within_price price (λ o. cond (eqb o.sell asset) (value o) 0)
      (λ o. cond (eqb o.sell asset) (gives prices flow offers o) 0) offers (given_each offers) in
      omega (arith, sold_is)

  -- the value that is bought of an asset is within that of what is given of it
  pub bought_within : bought n flow asset ≤ price * given prices flow offers asset
  bought_within =
      let balance : sold n flow asset ≡ bought n flow asset = fits.balanced asset lt in omega (arith, sold_within)

  pub never_negative : got prices flow offers asset ≤ given prices flow offers asset
  never_negative =
      let into =
      reaches_price price (λ o. cond (eqb o.buy asset) (value o) 0)
      (λ o. cond (eqb o.buy asset) (gets prices flow offers o) 0) offers (got_each offers) in
      let scaled : price * got prices flow offers asset ≤ price * given prices flow offers asset =
      omega (arith, bought_is, bought_within) in
      le_of_mul-le-mul_left {k = price} scaled price_above

pub rounding_never_negative : RoundingIsNeverNegative
rounding_never_negative parts prices flow asset is fits lt = never_negative parts prices flow is fits asset lt
