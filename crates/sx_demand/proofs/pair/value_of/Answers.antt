use Rattle.std.proofs.Common.{◌*◌, ◌^◌, ◌∙◌, arith}
use Rattle.std.proofs.lemmas.Nat.{mul-le}
use Rattle.sx_curve.specs.Quotes.{pair_of}
use Rattle.sx_demand.proofs.Splits.{covered_by, value_at_most}
use Rattle.sx_demand.proofs.pair.value_of.Goals as goal

pub overflow_mul-gain : goal.overflow_mul-gain
overflow_mul-gain c =
    let pair = c.args.pair.now in
    let parts = c.parts_of-parts in
    let covered = covered_by (pair_of pair.sell pair.buy c.args.curves.now.quotes) pair.sell_price pair.buy_price
    c.args.mu c.from-sell_price.result c.from-buy_price.result parts.result.mid parts.result.mid_weighted
    (c.from-sell_price.ensures ∙ c.get.ensures.value) (c.from-buy_price.ensures ∙ c.get-2.ensures.value)
    parts.ensures.mid parts.ensures.mid_weighted in
    let rated = mul-le (c.from-sell_price.result * 2 ^ 24) parts.result.mid (2 ^ 64) (2 ^ 62) (omega arith)
    (omega arith) in
    omega arith

pub overflow_sub-gain : goal.overflow_sub-gain
overflow_sub-gain c =
    let pair = c.args.pair.now in
    let parts = c.parts_of-parts in
    covered_by (pair_of pair.sell pair.buy c.args.curves.now.quotes) pair.sell_price pair.buy_price
    c.args.mu c.from-sell_price.result c.from-buy_price.result c.from.result parts.result.mid_weighted
    (c.from-sell_price.ensures ∙ c.get.ensures.value) (c.from-buy_price.ensures ∙ c.get-2.ensures.value)
    (c.from.ensures ∙ parts.ensures.mid) parts.ensures.mid_weighted

pub returns-clause-in_range : goal.returns-clause-in_range
returns-clause-in_range c =
    let pair = c.args.pair.now in
    let parts = c.parts_of-parts in
    let sell = c.from-sell_price.ensures ∙ c.get.ensures.value in
    let buy = c.from-buy_price.ensures ∙ c.get-2.ensures.value in
    let must = c.from-2.ensures ∙ parts.ensures.must in
    let mid = c.from.ensures ∙ parts.ensures.mid in
    rw (sell, buy, must, mid, parts.ensures.mid_weighted, c.get-3.ensures.value)
    (value_at_most (pair_of pair.sell pair.buy c.args.curves.now.quotes) pair.sell_price pair.buy_price c.args.mu
    parts.result.must parts.result.mid (omega arith, omega arith) (omega arith) parts.ensures.must parts.ensures.mid
    parts.ensures.in_range)
