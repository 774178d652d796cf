use Rattle.std.proofs.Common.{arith}
use Rattle.std.proofs.lemmas.Nat.{mul-add-lt}
use Rattle.sx_level.proofs.Filling.{fill_more}
use Rattle.sx_level.proofs.trading.flow_of.Goals as goal

pub loop-place-preserved : goal.loop-place-preserved
loop-place-preserved c =
    rw c.in_ok-push.ensures.items
    (fill_more c.args.bounds.now c.args.net.now.arcs c.loop-place.values.items c.loop-place.place c.traded_by.result
    c.loop-place.invariant (rw c.assets-assets.ensures.assets at c.traded_by.ensures.value)
    c.traded_by.ensures.in_range)

pub returns-clause-values : goal.returns-clause-values
returns-clause-values c =
    λ sell buy sell_lt buy_lt.
    let n = c.args.bounds.now.assets in
    let below = mul-add-lt sell n buy n sell_lt buy_lt in
    let most = rw c.assets-assets.ensures.assets at c.loop-place-test.false in
    rw (c.of.ensures.values, c.of.ensures.assets, c.assets-assets.ensures.assets)
    (c.loop-place.invariant.entries sell buy buy_lt (omega (arith, below, most)))
