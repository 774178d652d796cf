use Rattle.std.proofs.Common.{List, ℕ, ◌++◌}
use Rattle.std.specs.Prelude.{codes, string_bytes}
use Rattle.std.specs.List.{flat_map}
use Rattle.sx_block.specs.Trades.{trades_of}
use Rattle.sx_bytes.proofs.Written.{written_then}
use Rattle.sx_text.specs.Blocks.{dropped_line, front_text, market_line, trade_line}
use Rattle.sx_text.specs.Pieces.{digest_line, indexed}
use Rattle.sx_text.proofs.blocks.put_header.Goals as goal

pub returns : goal.returns
returns c =
    let r = c.put_digest.result in
    let new = string_bytes c.put_digest.new.to in
    let h = c.args.header.now in
    let after : List ℕ = digest_line (codes "after") h.after in
    let dropped : List ℕ = dropped_line h.dropped ++ after in
    let trades : List ℕ = flat_map trade_line (trades_of h.trades) ++ dropped in
    let assets : List ℕ = indexed (market_line h.potentials h.rounding) h.prices in
    written_then r (string_bytes c.args.to.now) (front_text h) (string_bytes c.put_front.new.to) (assets ++ trades) new
    c.in_ok-put_front.ensures
    (written_then r (string_bytes c.put_front.new.to) assets (string_bytes c.put_assets.new.to) trades new
    (rw (c.items.ensures, c.items-potentials.ensures.items, c.items-2.ensures) at c.in_ok-put_assets.ensures)
    (written_then r (string_bytes c.put_assets.new.to) (flat_map trade_line (trades_of h.trades))
    (string_bytes c.put_flow.new.to) dropped new c.in_ok-put_flow.ensures
    (written_then r (string_bytes c.put_flow.new.to) (dropped_line h.dropped) (string_bytes c.put_dropped.new.to)
    after new c.in_ok-put_dropped.ensures c.put_digest.ensures)))
