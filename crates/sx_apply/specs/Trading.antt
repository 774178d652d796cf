-- When a flow can trade, and what follows of the trade.
use Rattle.std.specs.Prelude.{◌≡◌, ℕ, ◌+◌, ◌*◌, ◌<◌, ◌≤◌, List, length, None, is_some}
use Rattle.std.specs.List.{All, Contains}
use Rattle.sx_block.specs.declared.header.Header.{Header}
use Rattle.sx_block.specs.Effects.{IsRounded, IsTradable}
use Rattle.sx_dual.specs.Fit.{Fits}
use Rattle.sx_dual.specs.Tables.{potential_of, value_of as flow_of}
use Rattle.sx_fill.specs.AllFills.{all_fills}
use Rattle.sx_ledger.specs.declared.fill.Fill.{Fill}
use Rattle.sx_ledger.specs.declared.offer.Offer.{Offer}
use Rattle.sx_ledger.specs.declared.parts.Parts.{Parts}
use Rattle.sx_ledger.specs.Bounds.{high_of, low_of, price_of}
use Rattle.sx_ledger.specs.Fills.{Flow, gets, gives, value_of}
use Rattle.sx_ledger.specs.Ledger.{IsLedger, assets_of}
use Rattle.sx_price.specs.Limits.{IsPrice, MayTrade, MustTrade}

-- ---- when a flow can trade

-- these are the offers of a ledger in which the flow can trade at these prices
pub record CanTrade (offers : List Offer) (prices : List ℕ) (flow : Flow) : Type 0 where
  pub parts : Parts
  pub ledger : IsLedger parts
  pub same : parts.offers ≡ offers
  pub tradable : IsTradable parts prices flow

-- these are the fills of such offers, at some prices of this many assets and for some flow
pub record AreFills (assets : ℕ) (offers : List Offer) (fills : List Fill) : Type 0 where
  pub prices : List ℕ
  pub flow : Flow
  pub same_assets : length prices ≡ assets
  pub can_trade : CanTrade offers prices flow
  pub are : fills ≡ all_fills prices flow offers

-- these are the fills of all offers of a ledger for some flow that can trade at the prices, and this is what rounding
-- keeps then
pub record CanExecute (parts : Parts) (prices rounding : List ℕ) (fills : List Fill) : Type 0 where
  pub flow : Flow
  pub tradable : IsTradable parts prices flow
  pub rounded : IsRounded parts prices flow rounding
  pub are : fills ≡ all_fills prices flow parts.offers

-- the flow and the potentials of the header fit the bounds of the ledger's offers at its prices, and its rounding is
-- what the trade keeps
pub record Clears (parts : Parts) (header : Header) : Type 0 where
  pub prices : All IsPrice header.prices
  pub same_assets : length header.prices ≡ assets_of parts
  pub flow_assets : header.trades.assets ≡ assets_of parts
  pub fits : Fits (assets_of parts) (low_of header.prices header.mu (is_some header.dropped) parts.offers)
      (high_of header.prices parts.offers) (flow_of header.trades) (potential_of header.potentials)
  pub rounded : IsRounded parts header.prices (flow_of header.trades) header.rounding

-- ---- what follows

-- the value that an offer trades where the header clears the ledger, and what it gives and gets
abbrev pub value_in : Parts → Header → Offer → ℕ
value_in parts header offer = value_of header.prices (flow_of header.trades) parts.offers offer

abbrev pub gives_in : Parts → Header → Offer → ℕ
gives_in parts header offer = gives header.prices (flow_of header.trades) parts.offers offer

abbrev pub gets_in : Parts → Header → Offer → ℕ
gets_in parts header offer = gets header.prices (flow_of header.trades) parts.offers offer

-- each offer that trades may trade
abbrev pub TradesWithinLimits : Parts → Header → Type 0
TradesWithinLimits parts header =
    (offer : Offer) → Contains parts.offers offer → 0 < value_in parts header offer →
    MayTrade (price_of header.prices offer.sell) (price_of header.prices offer.buy) offer.limit

-- where no lower bound is dropped, each offer that must trade gives its whole amount
abbrev pub TradesInFull : Parts → Header → Type 0
TradesInFull parts header =
    header.dropped ≡ None → (offer : Offer) → Contains parts.offers offer →
    MustTrade (price_of header.prices offer.sell) (price_of header.prices offer.buy) offer.limit header.mu →
    gives_in parts header offer ≡ offer.amount

-- what each offer gives is worth its value, and less than one unit more
abbrev pub GivesItsValue : Parts → Header → Type 0
GivesItsValue parts header =
    (offer : Offer) → Contains parts.offers offer →
    (value_in parts header offer ≤ price_of header.prices offer.sell * gives_in parts header offer)
    × (price_of header.prices offer.sell * gives_in parts header offer
    < value_in parts header offer + price_of header.prices offer.sell)

-- what each offer gets is worth no more than its value, and less than one unit less
abbrev pub GetsItsValue : Parts → Header → Type 0
GetsItsValue parts header =
    (offer : Offer) → Contains parts.offers offer →
    (price_of header.prices offer.buy * gets_in parts header offer ≤ value_in parts header offer)
    × (value_in parts header offer
    < price_of header.prices offer.buy * gets_in parts header offer + price_of header.prices offer.buy)
