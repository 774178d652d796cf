use Rattle.std.proofs.Common.{arith}
use Rattle.sx_feas.specs.Shape.{traded}
use Rattle.sx_feas.proofs.Cuts.{all_balanced}
use Rattle.sx_feas.proofs.finding.drain_all.Goals as goal

pub returns-clause-balanced : goal.returns-clause-balanced
returns-clause-balanced g c =
    all_balanced c.args.bounds.now.assets (traded c.args.bounds.now c.loop-asset.net.arcs)
    (λ v lt. c.loop-asset.invariant.covered v (omega arith))
