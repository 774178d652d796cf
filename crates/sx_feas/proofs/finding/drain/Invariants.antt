use Rattle.std.proofs.Common.{◌≡◌, ◌+◌, ◌-◌, ◌≤◌}
use Rattle.sx_feas.specs.Shape.{IsShaped, KeepsCovered, bought_now, sold_now}
use Rattle.sx_feas.proofs.finding.drain.Given as goal

abbrev pub invariant-loop-net : goal.invariant-loop-net
invariant-loop-net g l = record {
  nodes : l.net.nodes ≡ l.bounds.assets + 1;
  shaped : IsShaped l.bounds l.net.arcs;
  kept : KeepsCovered l.bounds l.initial.net.arcs l.net.arcs;
  rising : l.initial.steps ≤ l.steps;
}

abbrev pub decreases-loop-net : goal.decreases-loop-net
decreases-loop-net g l = bought_now l.bounds l.net.arcs l.asset - sold_now l.bounds l.net.arcs l.asset
