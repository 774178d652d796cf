use Rattle.std.proofs.Common.{ℕ, ◌<◌, ◌≤◌}
use Rattle.sx_level.specs.Shape.{surplus_of}
use Rattle.sx_level.proofs.scaling.greatest_surplus.Given as goal

abbrev pub invariant-loop-asset : goal.invariant-loop-asset
invariant-loop-asset l = record {
  most : (a : ℕ) → a < l.asset → surplus_of l.bounds.assets l.net.arcs a ≤ l.most;
  least : (m : ℕ) → ((a : ℕ) → a < l.bounds.assets → surplus_of l.bounds.assets l.net.arcs a ≤ m) → l.most ≤ m;
}
