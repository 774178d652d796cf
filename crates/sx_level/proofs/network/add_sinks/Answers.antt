use Rattle.std.proofs.Common.{arith}
use Rattle.sx_level.proofs.Building.{same_count}
use Rattle.sx_level.proofs.network.add_sinks.Goals as goal

pub loop-asset-preserved : goal.loop-asset-preserved
loop-asset-preserved c = same_count _ _ _ _ c.add_sink.ensures (omega arith)

pub returns : goal.returns
returns c = same_count _ _ _ _ c.loop-asset.invariant (omega arith)
