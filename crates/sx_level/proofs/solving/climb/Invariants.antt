use Rattle.std.proofs.Common.{◌≡◌, ℕ, ◌+◌, ◌-◌, ◌*◌, ◌^◌, ◌<◌, ◌≤◌, length}
use Rattle.sx_level.specs.Borders.{LeavesAtMost}
use Rattle.sx_level.specs.Levels.{IsLevel, AreHeld}
use Rattle.sx_level.specs.Shape.{AreAllowed, total_surplus}
use Rattle.sx_level.specs.Solved.{arc_count}
use Rattle.sx_level.proofs.solving.climb.Given as goal

abbrev pub invariant-loop-reached : goal.invariant-loop-reached
invariant-loop-reached g l = record {
  nodes : l.net.nodes ≡ l.bounds.assets + 2;
  count : length l.heights ≡ l.bounds.assets;
  few : l.level < 32;
  is_level : IsLevel l.bounds l.net.arcs l.heights l.level l.most;
  allowed : AreAllowed l.bounds l.net.arcs l.heights;
  held : AreHeld l.bounds.assets l.heights l.level;
  closed : 0 < total_surplus l.bounds.assets l.net.arcs → LeavesAtMost l.bounds.assets l.net.arcs l.reached.0 0;
  rising : l.fn.steps ≤ l.steps;
  counted : (b : ℕ) → l.most < 2 ^ b →
      l.steps ≤ l.fn.steps + (l.level + 1) * (2 * b * arc_count l.bounds.assets);
}

abbrev pub decreases-loop-reached : goal.decreases-loop-reached
decreases-loop-reached g l = l.bounds.assets - l.level
