-- In each pair the offers trade the whole value that the flow has for it.
use Rattle.std.proofs.Common.{◌≡◌, ℕ, ◌+◌, ◌-◌, ◌*◌, ◌≤◌, min, true, eqb, ◌&&◌, List, [], ◌∷◌, ◌++◌, sum_by, refl}
use Rattle.std.proofs.Common.{sym, ap, ap₂, subst, ◌∙◌, inl, inr, append_assoc, arith}
use Rattle.std.specs.List.{AllByRecursion, filter}
use Rattle.std.proofs.Math.Nat.{mul-le-mul_left, min-eq_left, min-eq_right}
use Rattle.std.proofs.lemmas.Bool.{cases_lt, eqb-true, and_parts}
use Rattle.std.proofs.lemmas.List.Elements.{filter_passes, recursion_from_All}
use Rattle.std.proofs.lemmas.List.Sums.{sum_by-cons, sum_by_push}
use Rattle.sx_block.proofs.ListSums.{filter-le, sum_by-agree}
use Rattle.sx_ledger.specs.declared.offer.Offer.{Offer}
use Rattle.sx_ledger.specs.Bounds.{amounts, high_of, may_trade_at, pair_of, price_of}
use Rattle.sx_ledger.specs.Fills.{value_of}
use Rattle.sx_ledger.specs.Order.{offer_before}
use Rattle.sx_ledger.proofs.OfferOrder.{Rising, rising_kept, in_front}

-- what is left of y after q, up to r
min_split : (y q r : ℕ) → min y q + min (y - q) r ≡ min y (q + r)
min_split y q r =
    elim (cases_lt y q) [
      | inl less ↦
          let a : min y q ≡ y = min-eq_left (omega arith) in
          let b : min (y - q) r ≡ 0 =
          let none : y - q ≡ 0 = omega arith in ap (λ (z : ℕ). min z r) none ∙ min-eq_left (omega arith) in
          let c : min y (q + r) ≡ y = min-eq_left (omega arith) in
          omega arith
      | inr more ↦
          let a : min y q ≡ q = min-eq_right more in
          elim (cases_lt (y - q) r) [
            | inl less ↦
                let b : min (y - q) r ≡ y - q = min-eq_left (omega arith) in
                let c : min y (q + r) ≡ y = min-eq_left (omega arith) in
                omega arith
            | inr most ↦
                let b : min (y - q) r ≡ r = min-eq_right most in
                let c : min y (q + r) ≡ q + r = min-eq_right (omega arith) in
                omega arith
          ]
    ]

module _ (price y : ℕ) (whole : List Offer) (rising : Rising whole) where
  -- what an offer trades where these are the offers of its pair
  abbrev fill : Offer → ℕ
  fill offer = min (y - price * amounts (filter (λ other. offer_before other offer) whole)) (price * offer.amount)

  fills_from : (front back : List Offer) → whole ≡ front ++ back
      → sum_by fill back ≡ min (y - price * amounts front) (price * amounts back)
  fills_from front [] e =
      let none : price * 0 ≡ 0 = omega arith in sym (min-eq_right {n = price * 0} (omega arith) ∙ none)
  fills_from front (offer ∷ back) e =
      let ahead : filter (λ other. offer_before other offer) whole ≡ front =
      ap (filter (λ other. offer_before other offer)) e ∙ in_front front back offer (subst Rising e rising) in
      let here : fill offer ≡ min (y - price * amounts front) (price * offer.amount) =
      ap (λ (xs : List Offer). min (y - price * amounts xs) (price * offer.amount)) ahead in
      let others = fills_from (front ++ offer ∷ []) back (e ∙ sym (append_assoc front (offer ∷ []) back)) in
      let next : amounts (front ++ offer ∷ []) ≡ amounts front + offer.amount =
      sum_by_push (λ o. o.amount) front offer in
      let left : y - price * amounts (front ++ offer ∷ []) ≡ (y - price * amounts front) - price * offer.amount =
      rw next (omega arith) in
      let all : price * amounts (offer ∷ back) ≡ price * offer.amount + price * amounts back =
      rw (sum_by-cons (λ (o : Offer). o.amount) offer back) (omega arith) in
      sum_by-cons fill offer back ∙ ap₂ ◌+◌ here (others ∙ ap (λ (z : ℕ). min z (price * amounts back)) left)
      ∙ min_split (y - price * amounts front) (price * offer.amount) (price * amounts back)
      ∙ ap (min (y - price * amounts front)) (sym all)

-- the offers of a pair
pub in_pair : (sell buy : ℕ) (offers : List Offer)
    → AllByRecursion (λ o. (eqb o.sell sell && eqb o.buy buy) ≡ true) (pair_of sell buy offers)
in_pair sell buy offers =
    recursion_from_All (λ o. (eqb o.sell sell && eqb o.buy buy) ≡ true) (pair_of sell buy offers)
    (filter_passes (λ o. eqb o.sell sell && eqb o.buy buy) offers)

module _ (prices : List ℕ) (flow : ℕ → ℕ → ℕ) (offers : List Offer) (sell buy : ℕ) where
  abbrev whole_pair : List Offer
  whole_pair = pair_of sell buy offers

  fill_is : (rising : Rising whole_pair) (o : Offer) → (eqb o.sell sell && eqb o.buy buy) ≡ true
      → value_of prices flow offers o ≡ fill (price_of prices sell) (flow sell buy) whole_pair rising o
  fill_is rising o e =
      let p = and_parts (eqb o.sell sell) (eqb o.buy buy) e in
      rw (eqb-true o.sell sell p.0, eqb-true o.buy buy p.1) refl

  fills_are : (rising : Rising whole_pair) (os : List Offer)
      → AllByRecursion (λ o. (eqb o.sell sell && eqb o.buy buy) ≡ true) os
      → AllByRecursion (λ o. value_of prices flow offers o ≡ fill (price_of prices sell) (flow sell buy) whole_pair
      rising o) os
  fills_are rising [] all = tt
  fills_are rising (o ∷ os) all = (fill_is rising o all.0, fills_are rising os all.1)

  -- the offers of a pair trade its whole value, where that is not above what may trade
  pub pair_trades : Rising offers → flow sell buy ≤ high_of prices offers sell buy
      → sum_by (value_of prices flow offers) whole_pair ≡ flow sell buy
  pair_trades rising within =
      let price = price_of prices sell in
      let y = flow sell buy in
      let up : Rising whole_pair = rising_kept (λ o. eqb o.sell sell && eqb o.buy buy) offers rising in
      let all =
      sum_by-agree (value_of prices flow offers) (fill price y whole_pair up) whole_pair
      (fills_are up whole_pair (in_pair sell buy offers)) in
      let sum = fills_from price y whole_pair up [] whole_pair refl in
      let none : y - price * amounts [] ≡ y = omega arith in
      let may : high_of prices offers sell buy ≤ price * amounts whole_pair =
      mul-le-mul_left price (filter-le (λ (o : Offer). o.amount) (may_trade_at prices) whole_pair) in
      all ∙ sum ∙ ap (λ (z : ℕ). min z (price * amounts whole_pair)) none ∙ min-eq_left (omega arith)
