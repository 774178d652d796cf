use Rattle.std.proofs.Common.{ℕ, ◌<◌, ◌≤◌}
use Rattle.sx_level.specs.Borders.{LeavesAtMost, border_at, border_between}
use Rattle.sx_level.proofs.scaling.left_out.Given as goal

abbrev pub invariant-loop-sell : goal.invariant-loop-sell
invariant-loop-sell l = record {
  at : (a : ℕ) → a < l.sell → border_at l.bounds.assets l.net.arcs l.set.0 a ≤ l.most;
  between : (s b : ℕ) → s < l.sell → b < l.bounds.assets →
      border_between l.bounds.assets l.net.arcs l.set.0 s b ≤ l.most;
  least : (m : ℕ) → LeavesAtMost l.bounds.assets l.net.arcs l.set.0 m → l.most ≤ m;
}
