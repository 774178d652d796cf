-- The text of a block.
use Rattle.std.specs.Prelude.{ℕ, List, ◌++◌, codes, length, slice_index, Option, None, Some}
use Rattle.std.specs.Fmt.{decimal}
use Rattle.std.specs.List.{flat_map}
use Rattle.sx_block.specs.declared.header.Block.{Block}
use Rattle.sx_block.specs.declared.header.Header.{Header}
use Rattle.sx_block.specs.declared.trade.Trade.{Trade}
use Rattle.sx_block.specs.Trades.{trades_of}
use Rattle.sx_dual.specs.declared.cut.Cut.{Cut}
use Rattle.sx_text.specs.Pieces.{digest_line, indexed, line}
use Rattle.sx_text.specs.Texts.{cut_text}
use Rattle.sx_text.specs.Transactions.{transactions_text}

abbrev pub block_line : Header → List ℕ
block_line header =
    codes "block version " ++ (decimal header.version ++ (codes " height " ++ (decimal header.height
    ++ (codes " mu " ++ (decimal header.mu ++ (codes " assets " ++ line (decimal (length header.prices))))))))

-- the price and the potential of an asset, and what rounding keeps of it
abbrev pub market_line : List ℕ → List ℕ → ℕ → ℕ → List ℕ
market_line potentials rounding asset price =
    codes "asset " ++ (decimal asset ++ (codes " price " ++ (decimal price
    ++ (codes " potential " ++ (decimal (slice_index potentials asset)
    ++ (codes " rounding " ++ line (decimal (slice_index rounding asset))))))))

abbrev pub trade_line : Trade → List ℕ
trade_line trade =
    codes "trade " ++ (decimal trade.sell ++ (codes " " ++ (decimal trade.buy
    ++ (codes " " ++ line (decimal trade.value)))))

-- the cut that shows why lower bounds were dropped
abbrev pub dropped_line : Option Cut → List ℕ
dropped_line None = line (codes "dropped none")
dropped_line (Some cut) = codes "dropped " ++ line (cut_text cut)

-- the block's own line, and the digests of what it stands on
abbrev pub front_text : Header → List ℕ
front_text header =
    block_line header ++ (digest_line (codes "parent") header.parent ++ digest_line (codes "body") header.body)

abbrev pub header_text : Header → List ℕ
header_text header =
    front_text header ++ (indexed (market_line header.potentials header.rounding) header.prices
    ++ (flat_map trade_line (trades_of header.trades)
    ++ (dropped_line header.dropped ++ digest_line (codes "after") header.after)))

abbrev pub block_text : Block → List ℕ
block_text block = header_text block.header ++ transactions_text (codes "transactions") block.txs
