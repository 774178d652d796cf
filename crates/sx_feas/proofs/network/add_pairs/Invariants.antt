use Rattle.std.proofs.Common.{◌+◌, ◌*◌}
use Rattle.sx_feas.specs.Shape.{HasArcs}
use Rattle.sx_feas.proofs.network.add_pairs.Given as goal

abbrev pub invariant-loop-buy : goal.invariant-loop-buy
invariant-loop-buy l = HasArcs l.bounds l.net (l.sell * l.bounds.assets + l.buy)
