use Rattle.std.proofs.Common.{◌≡◌, ◌*◌, ap, arith}
use Rattle.sx_feas.proofs.Shaping.{all_made, same_count}
use Rattle.sx_feas.proofs.network.network_of.Goals as goal

pub returns-clause-shaped : goal.returns-clause-shaped
returns-clause-shaped c =
    let n = c.args.bounds.now.assets in
    let all : c.loop-sell.sell ≡ n = omega arith in
    all_made c.args.bounds.now c.loop-sell.net
    (same_count c.args.bounds.now c.loop-sell.net (n * n) (c.loop-sell.sell * n) c.loop-sell.invariant
    (ap (λ k. k * n) all))
