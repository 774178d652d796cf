use Rattle.std.proofs.Common.{◌++◌, get_or, refl, sym, ap, ◌∙◌}
use Rattle.std.specs.List.{flat_map}
use Rattle.sx_block.specs.Encoding.{trade_bytes}
use Rattle.sx_block.proofs.Listing.{none_more, bytes_more}
use Rattle.sx_block.proofs.header_writing.put_trades.Goals.{then-value-ne0+in_ok-put_trade, else-value-ne0}
use Rattle.sx_block.proofs.header_writing.put_trades.Goals as goal

pub loop-place-preserved : goal.loop-place-preserved
loop-place-preserved c =
    let xs = c.args.entries.now in
    let i = c.loop-place.place in
    elim c.if-value-ne0.branch [
      | then-value-ne0+in_ok-put_trade w ↦
          w.to-is ∙ bytes_more c.args.assets xs i (get_or xs i 0) c.args.to.now c.loop-place.to w.put_trade.new.to
          c.loop-place-test.true refl w.if-value-ne0.true c.loop-place.invariant w.in_ok-put_trade.ensures.ok
      | else-value-ne0 w ↦
          w.to-is ∙ c.loop-place.invariant ∙
          ap (λ ts. c.args.to.now ++ flat_map trade_bytes ts)
          (sym (none_more c.args.assets xs i (get_or xs i 0) c.loop-place-test.true refl w.if-value-ne0.false))
    ]
