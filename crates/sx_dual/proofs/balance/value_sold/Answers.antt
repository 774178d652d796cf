use Rattle.std.proofs.Common.{◌≡◌, arith}
use Rattle.sx_dual.specs.Circulation.{sold}
use Rattle.sx_dual.specs.Sums.{between}
use Rattle.sx_dual.specs.Tables.{value_of}
use Rattle.sx_dual.proofs.Ranges.{sold_range}
use Rattle.sx_dual.proofs.Steps.{between_read, sum_more, sum_none}
use Rattle.sx_dual.proofs.balance.value_sold.Goals as goal

pub loop-buy-init : goal.loop-buy-init
loop-buy-init c = record {
  sum = sum_none (λ b. between (value_of c.args.flow.now) c.args.asset b);
  bound = omega arith;
}

pub loop-buy-preserved : goal.loop-buy-preserved
loop-buy-preserved c =
    let f = value_of c.args.flow.now in
    let read = between_read f c.args.asset c.asset_of.result c.at-value.result c.at-value.ensures.value
    c.at-value.ensures.itself in
    record {
      sum = sum_more c.loop-buy.buy (λ b. between f c.args.asset b) c.loop-buy.value c.at-value.result
          c.loop-buy.invariant.sum (rw c.asset_of.ensures at read);
      bound = omega arith;
    }

pub returns-clause-in_range : goal.returns-clause-in_range
returns-clause-in_range c =
    let flow = c.args.flow.now in
    let all : c.loop-buy.buy ≡ flow.assets = omega arith in
    let sum : c.loop-buy.value ≡ sold flow.assets (value_of flow) c.args.asset = rw all at c.loop-buy.invariant.sum in
    omega (arith, sold_range flow c.assets-buy-end.ensures.flow c.args.asset c.requires)
