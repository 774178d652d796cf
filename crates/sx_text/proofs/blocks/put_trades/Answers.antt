use Rattle.std.proofs.Common.{◌++◌, get_or, refl, sym, ap, ◌∙◌}
use Rattle.std.specs.Prelude.{string_bytes}
use Rattle.std.specs.List.{flat_map}
use Rattle.sx_block.proofs.Listing.{none_more}
use Rattle.sx_text.specs.Blocks.{trade_line}
use Rattle.sx_text.proofs.Trades.{trades-taken}
use Rattle.sx_text.proofs.blocks.put_trades.Goals.{then-value-ne0+in_ok-put_trade, else-value-ne0}
use Rattle.sx_text.proofs.blocks.put_trades.Goals as goal

pub loop-place-preserved : goal.loop-place-preserved
loop-place-preserved c =
    let xs = c.args.entries.now in
    let i = c.loop-place.place in
    let old = string_bytes c.args.to.now in
    elim c.if-value-ne0.branch [
      | then-value-ne0+in_ok-put_trade w ↦
          rw w.to-is
          (trades-taken c.args.assets xs i (get_or xs i 0) old (string_bytes c.loop-place.to)
          (string_bytes w.put_trade.new.to) c.loop-place-test.true refl w.if-value-ne0.true c.loop-place.invariant
          w.in_ok-put_trade.ensures)
      | else-value-ne0 w ↦
          rw w.to-is
          (c.loop-place.invariant ∙ ap (λ ts. old ++ flat_map trade_line ts)
          (sym (none_more c.args.assets xs i (get_or xs i 0) c.loop-place-test.true refl w.if-value-ne0.false)))
    ]
