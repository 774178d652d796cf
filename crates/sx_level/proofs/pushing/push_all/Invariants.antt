use Rattle.std.proofs.Common.{◌≡◌, ◌+◌, ◌-◌, ◌*◌, ◌≤◌}
use Rattle.sx_level.specs.Shape.{total_surplus}
use Rattle.sx_level.specs.Following.{Follows}
use Rattle.sx_level.proofs.pushing.push_all.Given as goal

abbrev pub invariant-loop-net : goal.invariant-loop-net
invariant-loop-net g l = record {
  nodes : l.net.nodes ≡ l.bounds.assets + 2;
  follows : Follows l.bounds l.initial.net.arcs l.net.arcs;
  rising : l.initial.steps ≤ l.steps;
  taken : (l.steps - l.initial.steps) * l.scale + total_surplus l.bounds.assets l.net.arcs
      ≤ total_surplus l.bounds.assets l.initial.net.arcs;
}

abbrev pub decreases-loop-net : goal.decreases-loop-net
decreases-loop-net g l = total_surplus l.bounds.assets l.net.arcs
