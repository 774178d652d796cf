use Rattle.std.proofs.Common.{◌<◌, ◌/◌, ◌%◌, length, ◌∙◌, arith}
use Rattle.std.proofs.lemmas.List.{get_or_read}
use Rattle.sx_curve.specs.Demand.{pair_value, sold_value}
use Rattle.sx_curve.specs.Quotes.{pair_of}
use Rattle.sx_demand.proofs.table.value_at.Goals as goal

pub returns : goal.returns
unfolding sold_value
returns c =
    let prices = c.args.prices.now in
    let sell : c.args.place / 32 < length prices = omega arith in
    let buy : c.args.place % 32 < length prices = omega arith in
    let sell_price = get_or_read prices (c.args.place / 32) c.index-prices-sell.result sell c.index-prices-sell.is 0 in
    let buy_price = get_or_read prices (c.args.place % 32) c.index-prices-buy.result buy c.index-prices-buy.is 0 in
    record {
      sold = λ _. c.value_of.ensures.value
          ∙ (λ i. pair_value (sell_price i) (buy_price i) c.args.mu
          (pair_of (c.asset_of.ensures i) (c.asset_of-2.ensures i) c.args.curves.now.quotes));
      in_range = c.value_of.ensures.in_range;
    }
