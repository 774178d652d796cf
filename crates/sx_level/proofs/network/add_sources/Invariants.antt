use Rattle.sx_level.specs.Building.{HasArcs}
use Rattle.sx_level.specs.Shape.{source_place}
use Rattle.sx_level.proofs.network.add_sources.Given as goal

abbrev pub invariant-loop-asset : goal.invariant-loop-asset
invariant-loop-asset l = HasArcs l.bounds l.net (source_place l.bounds.assets l.asset)
