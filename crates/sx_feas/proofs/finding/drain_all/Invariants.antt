use Rattle.std.proofs.Common.{◌≡◌, ℕ, ◌+◌, ◌<◌, ◌≤◌}
use Rattle.sx_feas.specs.Shape.{IsShaped, bought_now, sold_now}
use Rattle.sx_feas.proofs.finding.drain_all.Given as goal

abbrev pub invariant-loop-asset : goal.invariant-loop-asset
invariant-loop-asset g l = record {
  nodes : l.net.nodes ≡ l.bounds.assets + 1;
  shaped : IsShaped l.bounds l.net.arcs;
  covered : (v : ℕ) → v < l.asset → bought_now l.bounds l.net.arcs v ≤ sold_now l.bounds l.net.arcs v;
  rising : l.initial.steps ≤ l.steps;
}
