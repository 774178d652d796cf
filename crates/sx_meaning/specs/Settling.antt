-- What is promised of each block of a chain.
use Rattle.std.specs.Prelude.{◌≡◌, ℕ, ◌+◌, ◌*◌, ◌<◌, ◌≤◌, List, [], ◌∷◌, None, Some, Contains, slice_index}
use Rattle.sx_block.specs.declared.header.Block.{Block}
use Rattle.sx_block.specs.Effects.{IsInPart, circulating, gets_in, gives_in, value_in}
use Rattle.sx_block.specs.Validity.{IsValid, flow_of_block, high_in, ledger_after, low_in}
use Rattle.sx_block.specs.Validity.{offers_of, undropped_low_in}
use Rattle.sx_dual.specs.declared.cut.Cut.{Cut}
use Rattle.sx_dual.specs.Circulation.{HaveNoCirculation, IsGreatest}
use Rattle.sx_ledger.specs.declared.offer.Offer.{Offer}
use Rattle.sx_ledger.specs.declared.parts.Parts.{Parts}
use Rattle.sx_ledger.specs.Body.{spendable}
use Rattle.sx_ledger.specs.Bounds.{price_of}
use Rattle.sx_ledger.specs.Effects.{debits}
use Rattle.sx_ledger.specs.Ledger.{IsLedger, assets_of}
use Rattle.sx_meaning.specs.Findings.{MayComeAll}
use Rattle.sx_meaning.specs.Items.{Item, state}
use Rattle.sx_meaning.specs.Replays.{blocks_of}
use Rattle.sx_price.specs.Limits.{MayTrade, MustTrade}
use Rattle.sx_words.specs.declared.command.Command.TheVariants.{Replay}

-- the rate of a block reaches the limit of an offer, or the threshold from which on the offer must trade
abbrev pub MayTradeIn : Block → Offer → Type 0
MayTradeIn block offer =
    MayTrade (price_of block.header.prices offer.sell) (price_of block.header.prices offer.buy) offer.limit

abbrev pub MustTradeIn : Block → Offer → Type 0
MustTradeIn block offer =
    MustTrade (price_of block.header.prices offer.sell) (price_of block.header.prices offer.buy) offer.limit
    block.header.mu

-- what holds of a valid block on a ledger
pub record Settles (parts : Parts) (block : Block) : Type 0 where
  -- nothing is negative: what is debited is there
  pub covered : (account asset : ℕ) →
      debits block.txs account asset ≤ spendable block.header.version parts block.txs account asset
  pub ledger : IsLedger (ledger_after parts block)
  -- an offer that trades may trade, and one that must trade gives its whole amount, unless a cut shows that not all can
  pub within_limits : (offer : Offer) → Contains (offers_of parts block) offer → 0 < value_in parts block offer →
      MayTradeIn block offer
  pub in_full : block.header.dropped ≡ None → (offer : Offer) → Contains (offers_of parts block) offer →
      MustTradeIn block offer → gives_in parts block offer ≡ offer.amount
  pub cut : (cut : Cut) → block.header.dropped ≡ Some cut →
      HaveNoCirculation (assets_of parts) (undropped_low_in parts block) (high_in parts block)
  -- no circulation within the bounds trades more value
  pub greatest : IsGreatest (assets_of parts) (low_in parts block) (high_in parts block) (flow_of_block block)
  -- what an offer gives and gets is worth the value that it trades, to less than one unit
  pub gives : (offer : Offer) → Contains (offers_of parts block) offer →
      (value_in parts block offer ≤ price_of block.header.prices offer.sell * gives_in parts block offer)
      × (price_of block.header.prices offer.sell * gives_in parts block offer
      < value_in parts block offer + price_of block.header.prices offer.sell)
  pub gets : (offer : Offer) → Contains (offers_of parts block) offer →
      (price_of block.header.prices offer.buy * gets_in parts block offer ≤ value_in parts block offer)
      × (value_in parts block offer
      < price_of block.header.prices offer.buy * gets_in parts block offer + price_of block.header.prices offer.buy)
  -- at most one offer of a pair trades in part
  pub one_in_part : (one other : Offer) → Contains (offers_of parts block) one
      → Contains (offers_of parts block) other →
      one.sell ≡ other.sell → one.buy ≡ other.buy →
      IsInPart block.header.prices (flow_of_block block) (offers_of parts block) one →
      IsInPart block.header.prices (flow_of_block block) (offers_of parts block) other → one ≡ other
  -- balances and offers fall by exactly the rounding that the block records, and the ledger's rounding rises by it
  pub falls : (asset : ℕ) → asset < assets_of parts →
      circulating parts asset ≡ circulating (ledger_after parts block) asset + slice_index block.header.rounding asset
  pub rises : (asset : ℕ) → asset < assets_of parts →
      slice_index (ledger_after parts block).rounding asset
      ≡ slice_index parts.rounding asset + slice_index block.header.rounding asset

-- a fact of each block of a chain, and of the ledger that the one before it left
abbrev pub EachBlock : (Parts → Block → Type 0) → Parts → List Block → Type 0
EachBlock Fact parts [] = Unit {0}
EachBlock Fact parts (next ∷ others) = Fact parts next × EachBlock Fact (ledger_after parts next) others

-- a valid block settles
abbrev pub ValidSettles : Type 0
ValidSettles = (parts : Parts) (block : Block) → IsLedger parts → IsValid parts block → Settles parts block

-- and so does each block of a replay, on the ledger that the one before it left
abbrev pub ReplaysSettle : Type 0
ReplaysSettle =
    (workers : ℕ) (parts : Parts) (items : List Item) → MayComeAll (Replay workers) [] (state parts ∷ items)
    → EachBlock Settles parts (blocks_of items)
