use Rattle.std.proofs.Common.{◌≤◌, below_more, arith}
use Rattle.sx_level.specs.Shape.{surplus_of}
use Rattle.sx_level.proofs.scaling.greatest_surplus.Goals as goal

pub loop-asset-preserved : goal.loop-asset-preserved
loop-asset-preserved c =
    let n = c.args.bounds.now.assets in
    let arcs = c.args.net.now.arcs in
    record {
      most =
          below_more (λ a. surplus_of n arcs a ≤ c.max-most.result) c.loop-asset.asset
          (λ a lt. omega (arith, c.loop-asset.invariant.most a lt, c.max-most.ensures))
          (omega (arith, c.surplus.ensures, c.max-most.ensures));
      least = λ m all.
          omega (
            arith,
            all c.loop-asset.asset (omega (arith, c.assets-asset-end.ensures.assets)),
            c.loop-asset.invariant.least m all,
            c.surplus.ensures,
            c.max-most.ensures,
          );
    }
