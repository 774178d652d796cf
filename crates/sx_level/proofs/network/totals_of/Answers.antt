use Rattle.std.proofs.Common.{arith}
use Rattle.sx_dual.specs.Sums.{between}
use Rattle.sx_dual.proofs.Steps.{between_read, sum_more, sum_none}
use Rattle.sx_dual.specs.Tables.{high_of}
use Rattle.sx_level.proofs.network.totals_of.Goals as goal

pub loop-other-init : goal.loop-other-init
loop-other-init c =
    let y = high_of c.args.bounds.now in
    record {
      sold = sum_none (λ b. between y c.args.asset b);
      bought = sum_none (λ s. between y s c.args.asset);
      sold_range = omega arith;
      bought_range = omega arith;
    }

pub loop-other-preserved : goal.loop-other-preserved
loop-other-preserved c =
    let y = high_of c.args.bounds.now in
    let sale = rw (c.asset_of.ensures, c.asset_of-in-loop-other.ensures) at c.high-sale.ensures in
    let purchase = rw (c.asset_of-in-loop-other-2.ensures, c.asset_of-in-loop-other-3.ensures)
    at c.high-purchase.ensures in
    record {
      sold = sum_more c.loop-other.other (λ b. between y c.args.asset b) c.loop-other.sold c.high-sale.result
          c.loop-other.invariant.sold
          (between_read y c.args.asset c.loop-other.other c.high-sale.result sale.value sale.itself);
      bought = sum_more c.loop-other.other (λ s. between y s c.args.asset) c.loop-other.bought c.high-purchase.result
          c.loop-other.invariant.bought
          (between_read y c.loop-other.other c.args.asset c.high-purchase.result purchase.value
          purchase.itself);
      sold_range = omega (arith, sale.in_range);
      bought_range = omega (arith, purchase.in_range);
    }
