use Rattle.std.proofs.Common.{ℕ, ◌<◌, ◌≤◌}
use Rattle.sx_level.specs.Borders.{LeavesAtMost, border_at, border_between}
use Rattle.sx_level.proofs.scaling.left_by.Given as goal

abbrev pub invariant-loop-buy : goal.invariant-loop-buy
invariant-loop-buy l = record {
  at : border_at l.bounds.assets l.net.arcs l.set.0 l.sell ≤ l.most;
  between : (b : ℕ) → b < l.buy → border_between l.bounds.assets l.net.arcs l.set.0 l.sell b ≤ l.most;
  least : (m : ℕ) → LeavesAtMost l.bounds.assets l.net.arcs l.set.0 m → l.most ≤ m;
}
