use Rattle.std.proofs.Common.{◌≡◌, ◌+◌, ◌*◌, ◌^◌, ◌<◌, ◌≤◌}
use Rattle.sx_level.specs.Borders.{LeavesAtMost}
use Rattle.sx_level.specs.Following.{Follows, HasBelow}
use Rattle.sx_level.specs.Shape.{total_surplus}
use Rattle.sx_level.specs.Solved.{arc_count}
use Rattle.sx_level.proofs.scaling.maximize.Given as goal

abbrev pub invariant-loop-digits : goal.invariant-loop-digits
invariant-loop-digits g l = record {
  nodes : l.net.nodes ≡ l.bounds.assets + 2;
  few : l.digits ≤ 128;
  follows : Follows l.bounds l.initial.net.arcs l.net.arcs;
  limit : HasBelow l.bounds l.net.arcs (2 ^ l.digits);
  closed : l.digits ≡ 0 → 0 < total_surplus l.bounds.assets l.net.arcs →
      LeavesAtMost l.bounds.assets l.net.arcs l.reached.0 0;
  rising : l.initial.steps ≤ l.steps;
  counted : l.steps + 2 * l.digits * arc_count l.bounds.assets
      ≤ l.initial.steps + 2 * l.initial.digits * arc_count l.bounds.assets;
}

abbrev pub decreases-loop-digits : goal.decreases-loop-digits
decreases-loop-digits g l = l.digits
