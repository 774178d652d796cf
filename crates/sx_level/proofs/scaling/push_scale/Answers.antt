use Rattle.std.proofs.Common.{◌-◌, ◌*◌, ◌<◌, arith}
use Rattle.std.proofs.lemmas.Nat.{pow_pos}
use Rattle.sx_level.proofs.Counting.{scale_rate}
use Rattle.sx_level.proofs.Stopping.{leaves_less}
use Rattle.sx_level.proofs.scaling.push_scale.Goals as goal

pub push_all-requires-clause-some : goal.push_all-requires-clause-some
push_all-requires-clause-some g c = omega (arith, c.scale_of.ensures, pow_pos (c.args.digits - 4))

pub returns-clause-stopped : goal.returns-clause-stopped
returns-clause-stopped g c =
    rw c.scale_of.ensures at
    (leaves_less c.args.bounds.now c.push_all.new.net.arcs c.push_all.ensures.follows.shaped
    c.reached_assets.result.0 c.scale_of.result
    (λ a lt.
    let marked = c.reached_assets.ensures.reached a lt in
    let found = c.push_all.ensures.reached a in
    (λ is. found.0 (marked.0 is), λ there. marked.1 (found.1 there)))
    c.push_all.ensures.apart (omega (arith, c.scale_of.ensures, pow_pos (c.args.digits - 4))))

pub returns-clause-counted : goal.returns-clause-counted
returns-clause-counted g c =
    let n = c.args.bounds.now.assets in
    let rate = scale_rate c.args.digits c.requires.some in
    let limit = c.requires.limit in
    let below : limit.most < rate.0 * c.scale_of.result = rw c.scale_of.ensures (omega (arith, limit.below, rate.1)) in
    let few = c.push_all.ensures.counted rate.0 (record {
      most = limit.most;
      below = below;
      limit = limit.limit;
    }) in
    omega (arith, few, rate.2 n)
