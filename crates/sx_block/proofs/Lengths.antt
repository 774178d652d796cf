-- How long the encoding of a block is.
use Rattle.std.proofs.Common.{◌≡◌, ℕ, ◌+◌, ◌*◌, ◌≤◌, cond, List, [], ◌∷◌, ◌++◌, length, drop, Option, None, Some}
use Rattle.std.proofs.Common.{refl, arith}
use Rattle.std.specs.Prelude.{is_some}
use Rattle.std.specs.List.{flat_map}
use Rattle.std.proofs.lemmas.List.{length-append, drop_at}
use Rattle.byteorder.specs.Endian.{big_bytes}
use Rattle.sx_block.specs.declared.header.Block.{Block}
use Rattle.sx_block.specs.declared.header.Header.{Header}
use Rattle.sx_block.specs.declared.trade.Trade.{Trade}
use Rattle.sx_block.specs.Block.{IsHeader, assets_of}
use Rattle.sx_block.specs.Encoding.{trade_bytes, flow_bytes, cut_bytes, front_bytes, market_bytes, outcome_bytes}
use Rattle.sx_block.specs.Encoding.{header_bytes, block_bytes}
use Rattle.sx_block.specs.Laws.{HasMostBytes, EveryBlockFits}
use Rattle.sx_block.specs.Trades.{trades_of}
use Rattle.sx_block.proofs.Counts.{trades_most}
use Rattle.sx_bytes.proofs.Field.{length-big_bytes}
use Rattle.sx_dual.specs.declared.cut.Cut.{Cut}
use Rattle.sx_tx.specs.Transactions.{list_bytes}
use Rattle.sx_tx.proofs.ListLaws.{fits_record}

length-numbers : (width : ℕ) (xs : List ℕ) → length (flat_map (big_bytes width) xs) ≡ length xs * width
length-numbers width [] = omega arith
length-numbers width (x ∷ xs) =
    let others : length (flat_map (big_bytes width) xs) ≡ length xs * width = length-numbers width xs in
    omega (arith, length-append (big_bytes width x) (flat_map (big_bytes width) xs), length-big_bytes width x)

length-trade_texts : (ts : List Trade) → length (flat_map trade_bytes ts) ≡ length ts * 18
length-trade_texts [] = refl
length-trade_texts (t ∷ ts) =
    let others : length (flat_map trade_bytes ts) ≡ length ts * 18 = length-trade_texts ts in omega arith

-- the bytes of a cut
abbrev pub cut_length : Option Cut → ℕ
cut_length dropped = cond (is_some dropped) 4 0

length-cut : (dropped : Option Cut) → length (cut_bytes dropped) ≡ 1 + cut_length dropped
length-cut None = refl
length-cut (Some cut) = refl

pub cut_most : (dropped : Option Cut) → cut_length dropped ≤ 4
cut_most None = omega arith
cut_most (Some cut) = omega arith

length-front : (h : Header) → IsHeader h → length (front_bytes h) ≡ 74
length-front h is =
    let rest = h.body ++ big_bytes 1 h.mu in
    omega (arith, length-append h.parent rest, length-append h.body (big_bytes 1 h.mu), is.parent.whole, is.body.whole)

length-market : (h : Header)
    → length (market_bytes h) ≡ length h.prices * 8 + 3 + length (trades_of h.trades) * 18 + cut_length h.dropped
length-market h =
    let ts = trades_of h.trades in
    let flow : length (flow_bytes h.trades) ≡ 2 + length ts * 18 = omega (arith, length-trade_texts ts) in
    omega (
      arith,
      length-append (flat_map (big_bytes 8) h.prices) (flow_bytes h.trades ++ cut_bytes h.dropped),
      length-append (flow_bytes h.trades) (cut_bytes h.dropped),
      length-numbers 8 h.prices,
      length-cut h.dropped,
    )

length-outcome : (h : Header) → IsHeader h
    → length (outcome_bytes h) ≡ length h.potentials * 4 + length h.rounding * 8 + 32
length-outcome h is =
    let rounding = flat_map (big_bytes 8) h.rounding in
    omega (
      arith,
      length-append (flat_map (big_bytes 4) h.potentials) (rounding ++ h.after),
      length-append rounding h.after,
      length-numbers 4 h.potentials,
      length-numbers 8 h.rounding,
      is.after.whole,
    )

pub length-header : (h : Header) → IsHeader h
    → length (header_bytes h) ≡ 110 + 20 * assets_of h + 18 * length (trades_of h.trades) + cut_length h.dropped
length-header h is =
    let back = market_bytes h ++ outcome_bytes h in
    omega (
      arith,
      length-append (front_bytes h) (big_bytes 1 (assets_of h) ++ back),
      length-append (market_bytes h) (outcome_bytes h),
      length-front h is,
      length-market h,
      length-outcome h is,
      is.one_potential,
      is.one_rounding,
    )

header_most : (h : Header) → IsHeader h → length (header_bytes h) ≤ 18610
header_most h is =
    omega (arith, length-header h is, cut_most h.dropped, is.few_assets, trades_most h.trades is.trades)

pub block_most : HasMostBytes
block_most block is =
    omega (
      arith,
      length-append (header_bytes block.header) (list_bytes block.txs),
      header_most block.header is.header,
      fits_record block.txs is.few,
    )

pub block_fits : EveryBlockFits
block_fits block is = omega (arith, block_most block is)

-- where the transactions begin
pub after_header : (block : Block)
    → drop (length (header_bytes block.header)) (block_bytes block) ≡ list_bytes block.txs
after_header block =
    drop_at (header_bytes block.header) (list_bytes block.txs) (length (header_bytes block.header)) refl

pub header_within : (block : Block) → length (header_bytes block.header) ≤ length (block_bytes block)
header_within block = omega (arith, length-append (header_bytes block.header) (list_bytes block.txs))
