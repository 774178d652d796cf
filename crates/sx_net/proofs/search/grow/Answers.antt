use Rattle.std.proofs.Common.{◌∙◌, arith, below_more}
use Rattle.sx_net.specs.Trees.{IsExplored}
use Rattle.sx_net.proofs.Growing.{node_same, IsExplored-more}
use Rattle.sx_net.proofs.search.grow.Goals as goal

pub loop-next-preserved : goal.loop-next-preserved
loop-next-preserved c =
    let so_far = c.loop-next.invariant in
    record {
      nodes = c.explore.ensures.nodes ∙ so_far.nodes;
      linked = c.explore.ensures.linked;
      root = node_same _ _ c.explore.ensures.more 0 so_far.linked.some ∙ so_far.root;
      explored = below_more (λ p. IsExplored c.args.arcs.now c.args.least c.explore.new.tree.visits p) c.loop-next.next
          (λ p before. IsExplored-more _ _ _ _ c.explore.ensures.more p (omega arith) (so_far.explored p before))
          c.explore.ensures.explored;
    }
