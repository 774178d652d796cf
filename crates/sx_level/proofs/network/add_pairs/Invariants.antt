use Rattle.sx_level.specs.Building.{HasArcs}
use Rattle.sx_level.proofs.network.add_pairs.Given as goal

abbrev pub invariant-loop-place : goal.invariant-loop-place
invariant-loop-place l = HasArcs l.bounds l.net l.place
