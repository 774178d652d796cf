use Rattle.std.proofs.Common.{arith}
use Rattle.sx_dual.specs.Sums.{between}
use Rattle.sx_dual.proofs.Steps.{between_read, sum_more, sum_none}
use Rattle.sx_feas.specs.Shape.{traded}
use Rattle.sx_feas.proofs.totals.totals_of.Goals as goal

pub loop-other-init : goal.loop-other-init
loop-other-init c =
    let y = traded c.args.bounds.now c.args.net.now.arcs in
    record {
      sold = sum_none (λ b. between y c.args.asset b);
      bought = sum_none (λ s. between y s c.args.asset);
      sold_range = omega arith;
      bought_range = omega arith;
    }

pub loop-other-preserved : goal.loop-other-preserved
loop-other-preserved c =
    let y = traded c.args.bounds.now c.args.net.now.arcs in
    let sale = c.traded_by-sale in
    let purchase = c.traded_by-purchase in
    record {
      sold = sum_more c.loop-other.other (λ b. between y c.args.asset b) c.loop-other.sold sale.result
          c.loop-other.invariant.sold
          (between_read y c.args.asset c.loop-other.other sale.result sale.ensures.value sale.ensures.itself);
      bought = sum_more c.loop-other.other (λ s. between y s c.args.asset) c.loop-other.bought purchase.result
          c.loop-other.invariant.bought
          (between_read y c.loop-other.other c.args.asset purchase.result purchase.ensures.value
          purchase.ensures.itself);
      sold_range = omega (arith, sale.ensures.in_range);
      bought_range = omega (arith, purchase.ensures.in_range);
    }
