-- Laws of what trading and whole blocks leave, for all ledgers, flows and blocks.
use Rattle.std.specs.Prelude.{◌≡◌, ℕ, ◌+◌, ◌*◌, ◌<◌, ◌≤◌, false, None, Some, List, Contains, slice_index}
use Rattle.sha2.specs.Sha256.{sha256}
use Rattle.sx_block.specs.declared.header.Block.{Block}
use Rattle.sx_block.specs.Effects.{IsInPart, IsRounded, IsTradable, circulating, gets_in, gives_in, value_in}
use Rattle.sx_block.specs.Validity.{IsValid, digest_of_ledger, flow_of_block, high_in, ledger_after, low_in}
use Rattle.sx_block.specs.Validity.{offers_of, undropped_low_in}
use Rattle.sx_dual.specs.declared.cut.Cut.{Cut}
use Rattle.sx_dual.specs.Circulation.{HaveNoCirculation, IsGreatest}
use Rattle.sx_dual.specs.Sums.{EachPair}
use Rattle.sx_ledger.specs.declared.offer.Offer.{Offer}
use Rattle.sx_ledger.specs.declared.parts.Parts.{Parts}
use Rattle.sx_ledger.specs.Bounds.{low_of, price_of}
use Rattle.sx_ledger.specs.Fills.{given, gives, gets, got, value_of}
use Rattle.sx_ledger.specs.Ledger.{IsLedger, assets_of, most_height, total_of}
use Rattle.sx_ledger.specs.Trade.{traded}
use Rattle.sx_price.specs.Limits.{MayTrade, MustTrade}
use Rattle.sx_tx.specs.Transactions.{list_bytes}

-- ---- fills

-- an offer never gives more than it has
abbrev pub GivesWhatItHas : Type 0
GivesWhatItHas =
    (prices : List ℕ) (flow : ℕ → ℕ → ℕ) (offers : List Offer) (offer : Offer) → 0 < price_of prices offer.sell →
    gives prices flow offers offer ≤ offer.amount

-- what it gives is worth its value, and less than one unit more
abbrev pub GivesLessThanOneMore : Type 0
GivesLessThanOneMore =
    (prices : List ℕ) (flow : ℕ → ℕ → ℕ) (offers : List Offer) (offer : Offer) → 0 < price_of prices offer.sell →
    (value_of prices flow offers offer ≤ price_of prices offer.sell * gives prices flow offers offer)
    × (price_of prices offer.sell * gives prices flow offers offer
    < value_of prices flow offers offer + price_of prices offer.sell)

-- what it gets is worth no more than its value, and less than one unit less
abbrev pub GetsLessThanOneLess : Type 0
GetsLessThanOneLess =
    (prices : List ℕ) (flow : ℕ → ℕ → ℕ) (offers : List Offer) (offer : Offer) → 0 < price_of prices offer.buy →
    (price_of prices offer.buy * gets prices flow offers offer ≤ value_of prices flow offers offer)
    × (value_of prices flow offers offer
    < price_of prices offer.buy * gets prices flow offers offer + price_of prices offer.buy)

-- an offer that trades at all may trade: the rate reaches its limit
abbrev pub TradesOnlyWithinLimit : Type 0
TradesOnlyWithinLimit =
    (parts : Parts) (prices : List ℕ) (flow : ℕ → ℕ → ℕ) (offer : Offer) → IsLedger parts →
    IsTradable parts prices flow → Contains parts.offers offer →
    0 < value_of prices flow parts.offers offer →
    MayTrade (price_of prices offer.sell) (price_of prices offer.buy) offer.limit

-- where no pair trades less than its lower bound, an offer that must trade gives its whole amount
abbrev pub MustTradeInFull : Type 0
MustTradeInFull =
    (parts : Parts) (prices : List ℕ) (flow : ℕ → ℕ → ℕ) (j : ℕ) (offer : Offer) → IsLedger parts →
    IsTradable parts prices flow →
    EachPair (assets_of parts) (λ sell buy. low_of prices j false parts.offers sell buy ≤ flow sell buy) →
    Contains parts.offers offer → MustTrade (price_of prices offer.sell) (price_of prices offer.buy) offer.limit j →
    gives prices flow parts.offers offer ≡ offer.amount

-- at most one offer of a pair trades in part
abbrev pub OneTradesInPart : Type 0
OneTradesInPart =
    (parts : Parts) (prices : List ℕ) (flow : ℕ → ℕ → ℕ) (one other : Offer) → IsLedger parts →
    IsTradable parts prices flow → Contains parts.offers one → Contains parts.offers other →
    one.sell ≡ other.sell → one.buy ≡ other.buy →
    IsInPart prices flow parts.offers one → IsInPart prices flow parts.offers other → one ≡ other

-- ---- trading

-- rounding is never negative: no more is got of an asset than is given
abbrev pub RoundingIsNeverNegative : Type 0
RoundingIsNeverNegative =
    (parts : Parts) (prices : List ℕ) (flow : ℕ → ℕ → ℕ) (asset : ℕ) → IsLedger parts →
    IsTradable parts prices flow → asset < assets_of parts →
    got prices flow parts.offers asset ≤ given prices flow parts.offers asset

-- trading makes and loses nothing of any asset
abbrev pub TradeConserves : Type 0
TradeConserves =
    (parts : Parts) (prices : List ℕ) (flow : ℕ → ℕ → ℕ) (rounding : List ℕ) (asset : ℕ) → IsLedger parts →
    IsTradable parts prices flow → IsRounded parts prices flow rounding → asset < assets_of parts →
    total_of (traded parts prices flow rounding) asset ≡ total_of parts asset

-- of each asset, balances and offers fall by exactly the rounding
abbrev pub TradeFallsByRounding : Type 0
TradeFallsByRounding =
    (parts : Parts) (prices : List ℕ) (flow : ℕ → ℕ → ℕ) (rounding : List ℕ) (asset : ℕ) → IsLedger parts →
    IsTradable parts prices flow → IsRounded parts prices flow rounding → asset < assets_of parts →
    circulating parts asset ≡ circulating (traded parts prices flow rounding) asset + slice_index rounding asset

-- and the ledger's rounding rises by it
abbrev pub TradeKeepsRounding : Type 0
TradeKeepsRounding =
    (parts : Parts) (prices : List ℕ) (flow : ℕ → ℕ → ℕ) (rounding : List ℕ) (asset : ℕ) → IsLedger parts →
    IsRounded parts prices flow rounding → asset < assets_of parts →
    slice_index (traded parts prices flow rounding).rounding asset
    ≡ slice_index parts.rounding asset + slice_index rounding asset

-- the ledger after trading is a ledger
abbrev pub TradeKeepsLedger : Type 0
TradeKeepsLedger =
    (parts : Parts) (prices : List ℕ) (flow : ℕ → ℕ → ℕ) (rounding : List ℕ) → IsLedger parts →
    parts.height < most_height →
    IsTradable parts prices flow → IsRounded parts prices flow rounding → IsLedger (traded parts prices flow rounding)

-- ---- valid blocks

-- the ledger after a valid block is a ledger
abbrev pub BlockKeepsLedger : Type 0
BlockKeepsLedger =
    (parts : Parts) (block : Block) → IsLedger parts → IsValid parts block → IsLedger (ledger_after parts block)

-- a valid block makes and loses nothing of any asset
abbrev pub BlockConserves : Type 0
BlockConserves =
    (parts : Parts) (block : Block) (asset : ℕ) → IsLedger parts → IsValid parts block → asset < assets_of parts →
    total_of (ledger_after parts block) asset ≡ total_of parts asset

-- of each asset, balances and offers fall in a valid block by exactly the rounding that its header says
abbrev pub BlockHeldFalls : Type 0
BlockHeldFalls =
    (parts : Parts) (block : Block) (asset : ℕ) → IsLedger parts → IsValid parts block → asset < assets_of parts →
    circulating parts asset ≡ circulating (ledger_after parts block) asset + slice_index block.header.rounding asset

-- and the ledger's rounding rises by it
abbrev pub BlockKeepsRounding : Type 0
BlockKeepsRounding =
    (parts : Parts) (block : Block) (asset : ℕ) → IsLedger parts → IsValid parts block → asset < assets_of parts →
    slice_index (ledger_after parts block).rounding asset
    ≡ slice_index parts.rounding asset + slice_index block.header.rounding asset

-- the header of a valid block names the ledger before it, its transactions and the ledger after it by their digests
abbrev pub BlockCommits : Type 0
BlockCommits =
    (parts : Parts) (block : Block) → IsValid parts block →
    (block.header.parent ≡ digest_of_ledger parts) × (block.header.body ≡ sha256 (list_bytes block.txs))
    × (block.header.after ≡ digest_of_ledger (ledger_after parts block))

-- a valid block after another has the next height, and its parent is the ledger that the other left
abbrev pub BlocksChain : Type 0
BlocksChain =
    (parts : Parts) (block next : Block) → IsValid parts block → IsValid (ledger_after parts block) next →
    (next.header.height ≡ block.header.height + 1) × (next.header.parent ≡ block.header.after)

-- no circulation within the bounds of a valid block trades more value
abbrev pub BlockTradesMost : Type 0
BlockTradesMost =
    (parts : Parts) (block : Block) → IsValid parts block →
    IsGreatest (assets_of parts) (low_in parts block) (high_in parts block) (flow_of_block block)

-- where a valid block dropped lower bounds, no circulation keeps them
abbrev pub BlockDropsTheImpossible : Type 0
BlockDropsTheImpossible =
    (parts : Parts) (block : Block) (cut : Cut) → IsValid parts block → block.header.dropped ≡ Some cut →
    HaveNoCirculation (assets_of parts) (undropped_low_in parts block) (high_in parts block)

-- an offer that trades in a valid block may trade at its prices
abbrev pub BlockTradesWithinLimits : Type 0
BlockTradesWithinLimits =
    (parts : Parts) (block : Block) (offer : Offer) → IsLedger parts → IsValid parts block →
    Contains (offers_of parts block) offer →
    0 < value_of block.header.prices (flow_of_block block) (offers_of parts block) offer →
    MayTrade (price_of block.header.prices offer.sell) (price_of block.header.prices offer.buy) offer.limit

-- where a valid block dropped no lower bound, an offer that must trade gives its whole amount
abbrev pub BlockTradesInFull : Type 0
BlockTradesInFull =
    (parts : Parts) (block : Block) (offer : Offer) → IsLedger parts → IsValid parts block →
    block.header.dropped ≡ None →
    Contains (offers_of parts block) offer →
    MustTrade (price_of block.header.prices offer.sell) (price_of block.header.prices offer.buy) offer.limit
    block.header.mu →
    gives block.header.prices (flow_of_block block) (offers_of parts block) offer ≡ offer.amount

-- what an offer gives in a valid block is worth its value, and less than one unit more
abbrev pub BlockGivesItsValue : Type 0
BlockGivesItsValue =
    (parts : Parts) (block : Block) (offer : Offer) → IsLedger parts → IsValid parts block →
    Contains (offers_of parts block) offer →
    (value_in parts block offer ≤ price_of block.header.prices offer.sell * gives_in parts block offer)
    × (price_of block.header.prices offer.sell * gives_in parts block offer
    < value_in parts block offer + price_of block.header.prices offer.sell)

-- what it gets is worth no more than its value, and less than one unit less
abbrev pub BlockGetsItsValue : Type 0
BlockGetsItsValue =
    (parts : Parts) (block : Block) (offer : Offer) → IsLedger parts → IsValid parts block →
    Contains (offers_of parts block) offer →
    (price_of block.header.prices offer.buy * gets_in parts block offer ≤ value_in parts block offer)
    × (value_in parts block offer
    < price_of block.header.prices offer.buy * gets_in parts block offer + price_of block.header.prices offer.buy)

-- at most one offer of a pair trades in part in a valid block
abbrev pub OneInPart : Type 0
OneInPart =
    (parts : Parts) (block : Block) (one other : Offer) → IsLedger parts → IsValid parts block →
    Contains (offers_of parts block) one → Contains (offers_of parts block) other →
    one.sell ≡ other.sell → one.buy ≡ other.buy →
    IsInPart block.header.prices (flow_of_block block) (offers_of parts block) one →
    IsInPart block.header.prices (flow_of_block block) (offers_of parts block) other → one ≡ other
