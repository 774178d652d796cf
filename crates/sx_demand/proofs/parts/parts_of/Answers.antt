use Rattle.std.proofs.Common.{arith}
use Rattle.sx_curve.specs.Quotes.{pair_of}
use Rattle.sx_curve.proofs.PairValues.{must_and_mid}
use Rattle.sx_demand.proofs.Splits.{weighted_split}
use Rattle.sx_demand.proofs.parts.parts_of.Goals as goal

pub overflow_sub-result : goal.overflow_sub-result
overflow_sub-result c =
    let pair = c.args.pair.now in
    let quotes = pair_of pair.sell pair.buy c.args.curves.now.quotes in
    omega (arith, must_and_mid quotes pair.sell_price pair.buy_price c.args.mu)

pub overflow_sub-result-2 : goal.overflow_sub-result-2
overflow_sub-result-2 c =
    let pair = c.args.pair.now in
    let quotes = pair_of pair.sell pair.buy c.args.curves.now.quotes in
    omega (arith, weighted_split quotes pair.sell_price pair.buy_price c.args.mu)

pub returns-clause-mid : goal.returns-clause-mid
returns-clause-mid c =
    let pair = c.args.pair.now in
    let quotes = pair_of pair.sell pair.buy c.args.curves.now.quotes in
    omega (arith, must_and_mid quotes pair.sell_price pair.buy_price c.args.mu)

pub returns-clause-mid_weighted : goal.returns-clause-mid_weighted
returns-clause-mid_weighted c =
    let pair = c.args.pair.now in
    let quotes = pair_of pair.sell pair.buy c.args.curves.now.quotes in
    omega (arith, weighted_split quotes pair.sell_price pair.buy_price c.args.mu)

pub returns-clause-in_range : goal.returns-clause-in_range
returns-clause-in_range c =
    let pair = c.args.pair.now in
    let quotes = pair_of pair.sell pair.buy c.args.curves.now.quotes in
    omega (arith, must_and_mid quotes pair.sell_price pair.buy_price c.args.mu)
