use Rattle.std.proofs.Common.{arith}
use Rattle.sx_feas.proofs.Cuts.{reached_is_cut, reaches_itself}
use Rattle.sx_feas.proofs.finding.drain.Goals as goal

pub returns-in-None-clause-cut : goal.returns-in-None-clause-cut
returns-in-None-clause-cut g c = record {
  within = rw c.assets.ensures.assets at c.reached_assets.ensures.within;
  cut =
      reached_is_cut c.args.bounds.now c.explore.new.net.arcs
      (rw c.explore.ensures.arcs c.loop-net.invariant.shaped) c.reached_assets.result.0 c.args.asset
      (λ v lt.
      let marked = c.reached_assets.ensures.reached v (omega (arith, c.assets.ensures.assets)) in
      let found = c.explore.ensures.reached v in
      (λ is. found.0 (marked.0 is), λ there. marked.1 (found.1 there)))
      c.requires.asset (reaches_itself c.explore.new.net.arcs c.args.asset)
      (rw c.explore.ensures.arcs (omega (arith, c.surplus.ensures.value, c.loop-net-test.true)))
      (λ v lt there. c.in-None.ensures.none v lt ((c.explore.ensures.reached v).1 there));
}
