use Rattle.std.proofs.Common.{arith}
use Rattle.sx_feas.proofs.Shaping.{same_count}
use Rattle.sx_feas.proofs.network.add_pairs.Goals as goal

pub loop-buy-init : goal.loop-buy-init
loop-buy-init c = same_count _ _ _ _ c.requires.arcs (omega arith)

pub loop-buy-preserved : goal.loop-buy-preserved
loop-buy-preserved c = same_count _ _ _ _ c.add_pair.ensures (omega arith)

pub returns : goal.returns
returns c = same_count _ _ _ _ c.loop-buy.invariant (omega arith)
