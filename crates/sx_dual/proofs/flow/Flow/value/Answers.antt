use Rattle.std.proofs.Common.{arith}
use Rattle.sx_dual.specs.Circulation.{sold}
use Rattle.sx_dual.specs.Tables.{value_of}
use Rattle.sx_dual.proofs.Steps.{sum_more, sum_none}
use Rattle.sx_dual.proofs.flow.Flow.value.Goals as goal

pub loop-sell-init : goal.loop-sell-init
loop-sell-init c = record {
  sum = sum_none (sold c.args.self.now.assets (value_of c.args.self.now));
  bound = omega arith;
}

pub loop-sell-preserved : goal.loop-sell-preserved
loop-sell-preserved c =
    let flow = c.args.self.now in
    record {
      sum = sum_more c.loop-sell.sell (sold flow.assets (value_of flow)) c.loop-sell.value c.value_sold-value.result
          c.loop-sell.invariant.sum (rw c.asset_of.ensures at c.value_sold-value.ensures.value);
      bound = omega arith;
    }
