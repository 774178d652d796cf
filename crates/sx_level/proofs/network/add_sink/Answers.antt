use Rattle.std.proofs.Common.{◌≡◌, arith}
use Rattle.sx_level.specs.Building.{first_shortage}
use Rattle.sx_level.proofs.Building.{new_sink}
use Rattle.sx_level.proofs.network.add_sink.Goals as goal

pub returns : goal.returns
returns c =
    let one = c.add_one_way.ensures in
    let totals = c.totals_of-totals.ensures in
    let room : c.saturating_sub.result ≡ first_shortage c.args.bounds.now c.args.asset =
    omega (arith, c.saturating_sub.ensures, totals.sold, totals.bought) in
    new_sink c.args.bounds.now c.args.net.now c.add_one_way.new.net c.args.asset c.requires.asset c.requires.arcs
    one.nodes one.spare one.count one.kept (rw (c.assets.ensures.assets, room) at one.added)
