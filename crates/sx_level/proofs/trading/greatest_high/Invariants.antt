use Rattle.std.proofs.Common.{ℕ, ◌+◌, ◌*◌, ◌<◌, ◌≤◌}
use Rattle.sx_dual.specs.Tables.{high_of}
use Rattle.sx_level.proofs.trading.greatest_high.Given as goal

abbrev pub invariant-loop-place : goal.invariant-loop-place
invariant-loop-place l = record {
  most : (s b : ℕ) → b < l.bounds.assets → s * l.bounds.assets + b < l.place → high_of l.bounds s b ≤ l.most;
  least : (m : ℕ) → ((s b : ℕ) → s < l.bounds.assets → b < l.bounds.assets → high_of l.bounds s b ≤ m) → l.most ≤ m;
}
