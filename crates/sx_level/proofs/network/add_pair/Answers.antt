use Rattle.std.proofs.Common.{◌-◌, ◌/◌, ◌%◌, refl, ap}
use Rattle.sx_level.proofs.Building.{new_pair}
use Rattle.sx_level.proofs.network.add_pair.Goals as goal

pub returns : goal.returns
returns c =
    let high = rw (c.asset_of-from.ensures, c.asset_of-to.ensures, c.assets.ensures.assets, c.assets-2.ensures.assets)
    at c.high.ensures.value in
    let low = rw (c.asset_of-from.ensures, c.asset_of-to.ensures, c.assets.ensures.assets, c.assets-2.ensures.assets)
    at c.low.ensures.value in
    new_pair c.args.bounds.now c.args.net.now c.arc.new.self c.args.place _ _ (c.high.result - c.low.result)
    c.requires.arcs c.requires.place c.arc.ensures.added (ap (λ n. c.args.place % n) c.assets-2.ensures.assets)
    (ap (λ n. c.args.place / n) c.assets.ensures.assets) (rw (high, low) refl)
