use Rattle.std.proofs.Common.{◌≡◌, ◌<◌, ◌-◌, ℕ}
use Rattle.sx_net.specs.Trees.{IsTree, IsExplored}
use Rattle.sx_net.specs.Visits.{node_at}
use Rattle.sx_net.proofs.search.grow.Given as goal

abbrev pub invariant-loop-next : goal.invariant-loop-next
invariant-loop-next l = record {
  nodes : l.tree.nodes ≡ l.initial.tree.nodes;
  linked : IsTree l.arcs l.least l.tree.visits;
  root : node_at l.tree.visits 0 ≡ l.tail;
  explored : (p : ℕ) → p < l.next → IsExplored l.arcs l.least l.tree.visits p;
}

abbrev pub decreases-loop-next : goal.decreases-loop-next
decreases-loop-next l = l.tree.nodes - l.next
