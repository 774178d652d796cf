-- What all fills of a ledger's offers give and get is in range.
use Rattle.std.proofs.Common.{◌≡◌, ℕ, ◌^◌, ◌<◌, ◌≤◌, List, length, Some, sym, ap, subst, ◌∙◌, arith}
use Rattle.std.specs.Prelude.{All, slice_get, IfSome}
use Rattle.std.proofs.lemmas.Option.{get_or_from_slice_get, slice_get_within}
use Rattle.sx_apply.specs.FillSums.{given_by, got_by}
use Rattle.sx_apply.specs.Trading.{CanTrade}
use Rattle.sx_apply.proofs.FillPlaces.{given_is, gives_within, got_is, places_are}
use Rattle.sx_fill.specs.AllFills.{all_fills}
use Rattle.sx_block.proofs.FillLaws.{gives_has, never_negative, price_above}
use Rattle.sx_block.proofs.TradeTotals.{given_there}
use Rattle.sx_ledger.specs.declared.fill.Fill.{Fill}
use Rattle.sx_ledger.specs.declared.offer.Offer.{Offer}
use Rattle.sx_ledger.specs.Fills.{Flow, given, got}
use Rattle.sx_ledger.specs.Ledger.{IsOffer, assets_of}

pub given_of : (prices : List ℕ) (flow : Flow) (offers : List Offer) (fills : List Fill) (asset : ℕ)
    → fills ≡ all_fills prices flow offers → given_by offers fills asset ≡ given prices flow offers asset
given_of prices flow offers fills asset are =
    ap (λ (fs : List Fill). given_by offers fs asset) are ∙ given_is prices flow offers asset

pub got_of : (prices : List ℕ) (flow : Flow) (offers : List Offer) (fills : List Fill) (asset : ℕ)
    → fills ≡ all_fills prices flow offers → got_by offers fills asset ≡ got prices flow offers asset
got_of prices flow offers fills asset are =
    ap (λ (fs : List Fill). got_by offers fs asset) are ∙ got_is prices flow offers asset

pub places_of : (prices : List ℕ) (flow : Flow) (offers : List Offer) (fills : List Fill)
    → fills ≡ all_fills prices flow offers → All (λ (fill : Fill). fill.place < length offers) fills
places_of prices flow offers fills are =
    subst (λ (fs : List Fill). All (λ (fill : Fill). fill.place < length offers) fs) (sym are)
    (places_are prices flow offers)

module _ (offers : List Offer) (prices : List ℕ) (flow : Flow) (can : CanTrade offers prices flow) where
  most_given : (asset : ℕ) → asset < assets_of can.parts → given prices flow offers asset ≤ 2 ^ 62
  most_given asset lt =
      let there = given_there can.parts prices flow asset can.ledger can.tradable in
      let same = ap (λ (os : List Offer). given prices flow os asset) can.same in
      omega (arith, can.ledger.totals asset lt)

  less_got : (asset : ℕ) → asset < assets_of can.parts → got prices flow offers asset ≤ given prices flow offers asset
  less_got asset lt =
      let less = never_negative can.parts prices flow can.ledger can.tradable asset lt in
      subst (λ (os : List Offer). got prices flow os asset ≤ given prices flow os asset) can.same less

  pub totals_of : (fills : List Fill) (asset : ℕ) → fills ≡ all_fills prices flow offers → asset < assets_of can.parts
      → (given_by offers fills asset ≤ 2 ^ 62) × (got_by offers fills asset ≤ given_by offers fills asset)
  totals_of fills asset are lt =
      let a = given_of prices flow offers fills asset are in
      let b = got_of prices flow offers fills asset are in
      let m = most_given asset lt in
      let l = less_got asset lt in
      (omega arith, omega arith)

  offer_is : (place : ℕ) (o : Offer) → slice_get offers place ≡ Some o →
      IsOffer (assets_of can.parts) can.parts.accounts o
  offer_is place o there =
      subst (IsOffer (assets_of can.parts) can.parts.accounts) (get_or_from_slice_get offers place o o there)
      (subst (λ (os : List Offer). All (IsOffer (assets_of can.parts) can.parts.accounts) os) can.same
      can.ledger.offers place o (slice_get_within offers place o there))

  pub within_of : (fills : List Fill) → fills ≡ all_fills prices flow offers
      → All (λ (fill : Fill). IfSome (slice_get offers fill.place) (λ o. fill.gives ≤ o.amount)) fills
  within_of fills are =
      subst (λ (fs : List Fill). All (λ (fill : Fill). IfSome (slice_get offers fill.place)
      (λ o. fill.gives ≤ o.amount)) fs) (sym are)
      (gives_within prices flow offers
      (λ place o there. gives_has prices flow offers o
      (price_above can.parts prices flow can.ledger can.tradable o.sell (offer_is place o there).sell)))

  pub assets_sold : All (λ (o : Offer). o.sell < assets_of can.parts) offers
  assets_sold =
      subst (λ (os : List Offer). All (λ (o : Offer). o.sell < assets_of can.parts) os) can.same
      (λ k d lt. (can.ledger.offers k d lt).sell)

  pub assets_bought : All (λ (o : Offer). o.buy < assets_of can.parts) offers
  assets_bought =
      subst (λ (os : List Offer). All (λ (o : Offer). o.buy < assets_of can.parts) os) can.same
      (λ k d lt. (can.ledger.offers k d lt).buy)
