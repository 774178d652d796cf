use Rattle.std.proofs.Common.{◌≡◌, ℕ, ◌-◌, ◌*◌, ◌%◌, ◌^◌, ◌≤◌, ap, sym, ◌∙◌, arith, lit<}
use Rattle.std.proofs.Math.Nat.{pow-le-pow_right}
use Rattle.std.proofs.lemmas.Nat.{mul-le, one_shl}
use Rattle.sx_clear.proofs.prices.bounding.least_of.Goals as goal
use Rattle.sx_curve.specs.Quotes.{amounts, quotes_below}
use Rattle.sx_curve.proofs.PairValues.{must_are_below}

-- a price in the parts of μ is at most 2^60
price_fits : (price j : ℕ) → price ≤ 2 ^ 40 → j ≤ 20 → price * ((1 * 2 ^ j) % 2 ^ 128) ≤ 2 ^ 60
price_fits price j price_le j_le =
    let shifted : (1 * 2 ^ j) % 2 ^ 128 ≡ 2 ^ j = one_shl j 128 (omega arith) in
    let parts : 2 ^ j ≤ 2 ^ 20 = pow-le-pow_right (lit< tt) j_le in
    rw shifted (omega (arith, mul-le price (2 ^ j) (2 ^ 40) (2 ^ 20) price_le parts))

pub below-sums-requires : goal.below-sums-requires
below-sums-requires c =
    price_fits c.from-2.result c.get.result (omega (arith, c.from-2.ensures, c.get-3.ensures.at_most))
    c.get.ensures.in_range

pub returns-clause-value : goal.returns-clause-value
returns-clause-value c =
    let pair = c.args.pair in
    let quotes = c.args.curves.now.quotes in
    let rate : c.from.result ≡ pair.sell_price = c.from.ensures ∙ c.get-2.ensures.value in
    let price : c.from-2.result ≡ pair.buy_price = c.from-2.ensures ∙ c.get-3.ensures.value in
    let parts : (1 * 2 ^ c.get.result) % 2 ^ 128 ≡ 2 ^ c.args.mu =
    one_shl c.get.result 128 (omega (arith, c.get.ensures.in_range)) ∙ ap (λ n. 2 ^ n) c.get.ensures.value in
    c.value.ensures.product
    ∙ ap (λ n. pair.sell_price * n)
    (c.below-sums.ensures.amount
    ∙ (λ i. amounts (quotes_below pair.sell pair.buy (rate i * 2 ^ 24 * (parts i - 1)) (price i * parts i) quotes))
    ∙ ap amounts (sym (must_are_below quotes pair.sell pair.buy pair.sell_price pair.buy_price
    c.args.mu)))
