use Rattle.std.proofs.Common.{◌≡◌, ap, sym, ◌∙◌}
use Rattle.sx_curve.specs.Quotes.{amounts, quotes_below, weighted_amounts}
use Rattle.sx_demand.proofs.Splits.{must_are_below}
use Rattle.sx_demand.proofs.parts.sums_of.Goals as goal

pub returns-clause-must_amount : goal.returns-clause-must_amount
returns-clause-must_amount c =
    let pair = c.args.pair.now in
    let quotes = c.args.curves.now.quotes in
    let price : c.from-price.result ≡ pair.buy_price = c.from-price.ensures ∙ c.get.ensures.value in
    c.below_both.ensures.low_amount
    ∙ (λ i. amounts (quotes_below pair.sell pair.buy (c.rates-must.ensures.must i) (price i) quotes))
    ∙ ap amounts (sym (must_are_below quotes pair.sell pair.buy pair.sell_price pair.buy_price c.args.mu
    c.rates-must.ensures.exponent))

pub returns-clause-must_weighted : goal.returns-clause-must_weighted
returns-clause-must_weighted c =
    let pair = c.args.pair.now in
    let quotes = c.args.curves.now.quotes in
    let price : c.from-price.result ≡ pair.buy_price = c.from-price.ensures ∙ c.get.ensures.value in
    c.below_both.ensures.low_weighted
    ∙ (λ i. weighted_amounts (quotes_below pair.sell pair.buy (c.rates-must.ensures.must i) (price i) quotes))
    ∙ ap weighted_amounts (sym (must_are_below quotes pair.sell pair.buy pair.sell_price pair.buy_price c.args.mu
    c.rates-must.ensures.exponent))

pub returns-clause-may_amount : goal.returns-clause-may_amount
returns-clause-may_amount c =
    let pair = c.args.pair.now in
    let quotes = c.args.curves.now.quotes in
    let price : c.from-price.result ≡ pair.buy_price = c.from-price.ensures ∙ c.get.ensures.value in
    c.below_both.ensures.high_amount
    ∙ (λ i. amounts (quotes_below pair.sell pair.buy (c.rates-must.ensures.may i) (price i) quotes))

pub returns-clause-may_weighted : goal.returns-clause-may_weighted
returns-clause-may_weighted c =
    let pair = c.args.pair.now in
    let quotes = c.args.curves.now.quotes in
    let price : c.from-price.result ≡ pair.buy_price = c.from-price.ensures ∙ c.get.ensures.value in
    c.below_both.ensures.high_weighted
    ∙ (λ i. weighted_amounts (quotes_below pair.sell pair.buy (c.rates-must.ensures.may i) (price i) quotes))
