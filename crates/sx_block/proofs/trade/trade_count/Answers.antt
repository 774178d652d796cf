use Rattle.std.proofs.Common.{length, get_or, refl, sym, ap, ◌∙◌, arith}
use Rattle.sx_block.proofs.Listing.{none_more, count_more}
use Rattle.sx_block.proofs.trade.trade_count.Goals.{then-value-ne0, else-value-ne0}
use Rattle.sx_block.proofs.trade.trade_count.Goals as goal

pub loop-value-preserved : goal.loop-value-preserved
loop-value-preserved c =
    let xs = c.args.entries.now in
    let i = c.loop-value.value-index in
    elim c.if-value-ne0.branch [
      | then-value-ne0 w ↦ (
        omega (arith, w.count-is),
        omega (
          arith,
          w.count-is,
          count_more c.args.assets xs i (get_or xs i 0) c.loop-value-test.true refl
              w.if-value-ne0.true,
        ),
      )
      | else-value-ne0 w ↦ (
        omega (arith, w.count-is),
        w.count-is ∙ c.loop-value.invariant.1 ∙
            sym (ap length (none_more c.args.assets xs i (get_or xs i 0) c.loop-value-test.true refl
            w.if-value-ne0.false)),
      )
    ]
