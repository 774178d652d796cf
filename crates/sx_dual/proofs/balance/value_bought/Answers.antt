use Rattle.std.proofs.Common.{◌≡◌, arith}
use Rattle.sx_dual.specs.Circulation.{bought}
use Rattle.sx_dual.specs.Sums.{between}
use Rattle.sx_dual.specs.Tables.{value_of}
use Rattle.sx_dual.proofs.Ranges.{bought_range}
use Rattle.sx_dual.proofs.Steps.{between_read, sum_more, sum_none}
use Rattle.sx_dual.proofs.balance.value_bought.Goals as goal

pub loop-sell-init : goal.loop-sell-init
loop-sell-init c = record {
  sum = sum_none (λ s. between (value_of c.args.flow.now) s c.args.asset);
  bound = omega arith;
}

pub loop-sell-preserved : goal.loop-sell-preserved
loop-sell-preserved c =
    let f = value_of c.args.flow.now in
    let read = between_read f c.asset_of.result c.args.asset c.at-value.result c.at-value.ensures.value
    c.at-value.ensures.itself in
    record {
      sum = sum_more c.loop-sell.sell (λ s. between f s c.args.asset) c.loop-sell.value c.at-value.result
          c.loop-sell.invariant.sum (rw c.asset_of.ensures at read);
      bound = omega arith;
    }

pub returns-clause-in_range : goal.returns-clause-in_range
returns-clause-in_range c =
    let flow = c.args.flow.now in
    let all : c.loop-sell.sell ≡ flow.assets = omega arith in
    let sum : c.loop-sell.value ≡ bought flow.assets (value_of flow) c.args.asset =
    rw all at c.loop-sell.invariant.sum in
    omega (arith, bought_range flow c.assets-sell-end.ensures.flow c.args.asset c.requires)
