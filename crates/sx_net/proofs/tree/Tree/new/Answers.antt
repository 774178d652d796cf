use Rattle.std.proofs.Common.{arith, rules}
use Rattle.sx_net.proofs.Indexing.{IsIndexed-none}
use Rattle.sx_net.proofs.tree.Tree.new.Goals as goal

pub invariant_of-result : goal.invariant_of-result
invariant_of-result c =
    let places = c.in_ok-vec.ensures.items_if_clones_equal (λ y cloned. search rules) in
    rw (c.in_ok-with_capacity.ensures.items, places)
    (IsIndexed-none c.args.nodes _ (omega (arith, c.in_ok-with_capacity.ensures.capacity)) c.ranges.nodes.fits)
