-- What trading and blocks do: which flows can be traded, what rounding keeps, what an offer trades, gives and gets.
use Rattle.std.specs.Prelude.{◌≡◌, ℕ, ◌+◌, ◌<◌, ◌≤◌, List, length, All, slice_index}
use Rattle.std.specs.List.{sum_by}
use Rattle.sx_block.specs.declared.header.Block.{Block}
use Rattle.sx_block.specs.Validity.{flow_of_block, offers_of}
use Rattle.sx_dual.specs.Circulation.{IsBalanced}
use Rattle.sx_dual.specs.Sums.{EachPair}
use Rattle.sx_ledger.specs.declared.offer.Offer.{Offer}
use Rattle.sx_ledger.specs.declared.parts.Parts.{Parts}
use Rattle.sx_ledger.specs.Bounds.{high_of}
use Rattle.sx_ledger.specs.Fills.{IsRounding, gives, gets, value_of}
use Rattle.sx_ledger.specs.Ledger.{assets_of, balance_at, offered}
use Rattle.sx_price.specs.Limits.{IsPrice}

-- a flow that offers can trade: no pair trades more than it may, and as much is sold of each asset as is bought
pub record IsTradable (parts : Parts) (prices : List ℕ) (flow : ℕ → ℕ → ℕ) : Type 0 where
  pub same_assets : length prices ≡ assets_of parts
  pub in_range : All IsPrice prices
  pub within : EachPair (assets_of parts) (λ sell buy. flow sell buy ≤ high_of prices parts.offers sell buy)
  pub balanced : (asset : ℕ) → asset < assets_of parts → IsBalanced (assets_of parts) flow asset

-- each asset keeps by rounding what was given less what was got
pub record IsRounded (parts : Parts) (prices : List ℕ) (flow : ℕ → ℕ → ℕ) (rounding : List ℕ) : Type 0 where
  pub one_each : length rounding ≡ assets_of parts
  pub is : (asset : ℕ) → asset < assets_of parts
      → IsRounding prices flow parts.offers asset (slice_index rounding asset)

-- what there is of an asset in balances and on offer
abbrev pub circulating : Parts → ℕ → ℕ
circulating parts asset = sum_by (balance_at asset) parts.accounts + sum_by (offered asset) parts.offers

-- ---- an offer

-- some of it trades and some stays
pub record IsInPart (prices : List ℕ) (flow : ℕ → ℕ → ℕ) (offers : List Offer) (offer : Offer) : Type 0 where
  pub some : 0 < gives prices flow offers offer
  pub not_all : gives prices flow offers offer < offer.amount

-- what an offer trades, gives and gets in a block
abbrev pub value_in : Parts → Block → Offer → ℕ
value_in parts block offer = value_of block.header.prices (flow_of_block block) (offers_of parts block) offer

abbrev pub gives_in : Parts → Block → Offer → ℕ
gives_in parts block offer = gives block.header.prices (flow_of_block block) (offers_of parts block) offer

abbrev pub gets_in : Parts → Block → Offer → ℕ
gets_in parts block offer = gets block.header.prices (flow_of_block block) (offers_of parts block) offer
