use Rattle.std.proofs.Common.{◌-◌, ap, arith}
use Rattle.std.proofs.lemmas.Nat.{mul-add-lt}
use Rattle.sx_feas.proofs.Shaping.{one_more}
use Rattle.sx_feas.proofs.network.add_pair.Goals as goal

pub returns : goal.returns
returns c =
    let n = c.args.bounds.now.assets in
    let high = rw (c.asset_of-from.ensures, c.asset_of-to.ensures) at c.high.ensures.value in
    let low = rw (c.asset_of-from.ensures, c.asset_of-to.ensures) at c.low.ensures.value in
    let ordered = rw (c.asset_of-from.ensures, c.asset_of-to.ensures) at c.low.ensures.ordered in
    one_more c.args.bounds.now c.args.net.now c.arc.new.self c.args.sell c.args.buy (c.high.result - c.low.result)
    c.requires.buy c.requires.arcs (mul-add-lt c.args.sell n c.args.buy n c.requires.sell c.requires.buy)
    (ap (λ net. net.nodes) c.arc.ensures.added) (ap (λ net. net.arcs) c.arc.ensures.added)
    (ap (λ net. net.spare) c.arc.ensures.added) (rw c.arc.ensures.number at c.arc.ensures.reverse)
    (omega (arith, high, low, ordered))
