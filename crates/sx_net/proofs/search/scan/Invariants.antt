use Rattle.std.proofs.Common.{◌≡◌, ◌<◌, ℕ, length, drop, Some, slice_get}
use Rattle.sx_links.specs.Lists.{list_at, node_at, rest_from}
use Rattle.sx_net.specs.Arcs.{head_of, IsOpen}
use Rattle.sx_net.specs.Trees.{IsTree, Extends}
use Rattle.sx_net.specs.Visits.{IsVisited}
use Rattle.sx_net.proofs.search.scan.Given as goal

abbrev pub invariant-loop-link : goal.invariant-loop-link
invariant-loop-link l = let xs = list_at l.leaving.lists l.list in record {
  place : ℕ;
  here : l.link ≡ node_at xs place;
  rest : rest_from l.link xs ≡ drop place xs;
  nodes : l.tree.nodes ≡ l.initial.tree.nodes;
  linked : IsTree l.arcs l.least l.tree.visits;
  more : Extends l.initial.tree.visits l.tree.visits;
  followed : (p link a : ℕ) → p < place → slice_get xs p ≡ Some (link, a) → IsOpen l.arcs l.least a
      → IsVisited l.tree.visits (head_of l.arcs a);
}

abbrev pub decreases-loop-link : goal.decreases-loop-link
decreases-loop-link l = length (rest_from l.link (list_at l.leaving.lists l.list))
