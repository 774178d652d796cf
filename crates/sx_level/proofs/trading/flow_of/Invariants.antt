use Rattle.sx_level.proofs.Filling.{IsFilled}
use Rattle.sx_level.proofs.trading.flow_of.Given as goal

abbrev pub invariant-loop-place : goal.invariant-loop-place
invariant-loop-place l = IsFilled l.bounds l.net.arcs l.values.items l.place
