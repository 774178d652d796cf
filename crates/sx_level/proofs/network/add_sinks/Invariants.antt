use Rattle.sx_level.specs.Building.{HasArcs}
use Rattle.sx_level.specs.Shape.{sink_place}
use Rattle.sx_level.proofs.network.add_sinks.Given as goal

abbrev pub invariant-loop-asset : goal.invariant-loop-asset
invariant-loop-asset l = HasArcs l.bounds l.net (sink_place l.bounds.assets l.asset)
