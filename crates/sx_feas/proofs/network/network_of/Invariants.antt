use Rattle.std.proofs.Common.{◌*◌}
use Rattle.sx_feas.specs.Shape.{HasArcs}
use Rattle.sx_feas.proofs.network.network_of.Given as goal

abbrev pub invariant-loop-sell : goal.invariant-loop-sell
invariant-loop-sell l = HasArcs l.bounds l.net (l.sell * l.bounds.assets)
