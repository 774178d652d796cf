-- The one encoding of a block as bytes.
use Rattle.std.specs.Prelude.{ℕ, List, ◌++◌, length, Option, None, Some}
use Rattle.std.specs.List.{flat_map}
use Rattle.byteorder.specs.Endian.{big_bytes}
use Rattle.sx_block.specs.declared.header.Header.{Header}
use Rattle.sx_block.specs.declared.header.Block.{Block}
use Rattle.sx_block.specs.declared.trade.Trade.{Trade}
use Rattle.sx_block.specs.Trades.{trades_of}
use Rattle.sx_dual.specs.declared.cut.Cut.{Cut}
use Rattle.sx_dual.specs.Tables.{FlowTable}
use Rattle.sx_tx.specs.Transactions.{list_bytes}

abbrev pub trade_bytes : Trade → List ℕ
trade_bytes trade = big_bytes 1 trade.sell ++ (big_bytes 1 trade.buy ++ big_bytes 16 trade.value)

-- the trades of a flow, their number first
abbrev pub flow_bytes : FlowTable → List ℕ
flow_bytes flow = big_bytes 2 (length (trades_of flow)) ++ flat_map trade_bytes (trades_of flow)

-- a flag, and the cut where there is one
abbrev pub cut_bytes : Option Cut → List ℕ
cut_bytes None = big_bytes 1 0
cut_bytes (Some cut) = big_bytes 1 1 ++ big_bytes 4 cut.0

-- ---- the header, in three parts

abbrev pub front_bytes : Header → List ℕ
front_bytes header =
    big_bytes 1 header.version ++ (big_bytes 8 header.height ++
    (header.parent ++ (header.body ++ big_bytes 1 header.mu)))

abbrev pub market_bytes : Header → List ℕ
market_bytes header = flat_map (big_bytes 8) header.prices ++ (flow_bytes header.trades ++ cut_bytes header.dropped)

abbrev pub outcome_bytes : Header → List ℕ
outcome_bytes header =
    flat_map (big_bytes 4) header.potentials ++ (flat_map (big_bytes 8) header.rounding ++ header.after)

abbrev pub header_bytes : Header → List ℕ
header_bytes header =
    front_bytes header ++ (big_bytes 1 (length header.prices) ++ (market_bytes header ++ outcome_bytes header))

-- the payload of a block's record
abbrev pub block_bytes : Block → List ℕ
block_bytes block = header_bytes block.header ++ list_bytes block.txs
