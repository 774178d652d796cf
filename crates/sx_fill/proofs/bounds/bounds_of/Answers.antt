use Rattle.std.proofs.Common.{◌≡◌, ℕ, ◌*◌, ◌++◌, length, take, drop, refl, ap, ◌∙◌, arith}
use Rattle.sx_fill.proofs.BoundLaws.{are_bounds, bounds_as, has_bounds, put_back}
use Rattle.sx_fill.proofs.bounds.bounds_of.Goals as goal

pub of-requires : goal.of-requires
of-requires c =
    let prices = c.args.prices.now in
    let n = length prices in
    let counts : length c.items-assets.result.now ≡ n = ap length c.items-assets.ensures in
    let size = ap (λ (n : ℕ). n * n) counts in
    let adds = c.add_offers.ensures in
    let lows = put_back c.add_offers.new.low c.in_ok-low.low.items c.in_ok-low.low.len c.in_ok-low.low.ok.0
    (omega (arith, adds.low.full, size, c.in_ok-low.ensures.len, c.in_ok-low.low.ok.0)) in
    let highs = put_back c.add_offers.new.high c.in_ok-high.high.items c.in_ok-high.high.len c.in_ok-high.high.ok.0
    (omega (arith, adds.high.full, size, c.in_ok-high.ensures.len, c.in_ok-high.high.ok.0)) in
    bounds_as n (length c.items-assets.result.now) c.add_offers.new.low
    (take c.in_ok-low.low.len (c.add_offers.new.low ++ drop (length c.add_offers.new.low) c.in_ok-low.low.items))
    c.add_offers.new.high
    (take c.in_ok-high.high.len (c.add_offers.new.high ++ drop (length c.add_offers.new.high)
    c.in_ok-high.high.items)) counts lows highs
    (are_bounds n prices c.args.offers.now c.requires.assets refl c.requires.prices c.requires.offers c.args.mu
    c.add_offers.new.low c.add_offers.new.high adds.low adds.high)

pub returns : goal.returns
returns c =
    let prices = c.args.prices.now in
    let n = length prices in
    let counts : length c.items-assets.result.now ≡ n = ap length c.items-assets.ensures in
    let size = ap (λ (n : ℕ). n * n) counts in
    let adds = c.add_offers.ensures in
    let lows = put_back c.add_offers.new.low c.in_ok-low.low.items c.in_ok-low.low.len c.in_ok-low.low.ok.0
    (omega (arith, adds.low.full, size, c.in_ok-low.ensures.len, c.in_ok-low.low.ok.0)) in
    let highs = put_back c.add_offers.new.high c.in_ok-high.high.items c.in_ok-high.high.len c.in_ok-high.high.ok.0
    (omega (arith, adds.high.full, size, c.in_ok-high.ensures.len, c.in_ok-high.high.ok.0)) in
    has_bounds n prices c.args.mu c.args.offers.now c.add_offers.new.low c.add_offers.new.high c.of.result
    (c.of.ensures.assets ∙ counts) (c.of.ensures.low ∙ lows) (c.of.ensures.high ∙ highs) adds.low adds.high
