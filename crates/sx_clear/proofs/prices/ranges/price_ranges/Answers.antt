use Rattle.std.proofs.Common.{◌<◌, ℕ, All, List, get_or, length, subst, take_all, ap, ◌∙◌, arith}
use Rattle.std.proofs.lemmas.List.Elements.{All-more}
use Rattle.sx_price.specs.Limits.{IsPrice}
use Rattle.sx_clear.proofs.prices.ranges.price_ranges.Goals as goal

pub loop-price-preserved : goal.loop-price-preserved
loop-price-preserved c =
    let i = c.loop-price.price-index in
    let same = c.items-price-items.ensures in
    let price = c.get-price.ensures in
    let lt : i < length c.args.prices.now = omega (arith, c.loop-price-test.true, ap length same) in
    All-more IsPrice c.args.prices.now i c.price-item.result lt c.loop-price.invariant
    (subst IsPrice (c.price-item.is ∙ ap (λ (xs : List ℕ). get_or xs i c.price-item.result) same)
    (omega (arith, price.value, price.at_least), omega (arith, price.value, price.at_most)))

pub returns : goal.returns
returns c =
    let same = c.items-price-items.ensures in
    subst (All IsPrice)
    (take_all c.loop-price.price-index c.args.prices.now (omega (arith, c.loop-price-test.false, ap length same)))
    c.loop-price.invariant
