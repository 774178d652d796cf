use Rattle.std.proofs.Common.{ℕ, ◌<◌, ◌≤◌}
use Rattle.std.specs.Prelude.{Contains}
use Rattle.sx_feas.specs.Shape.{bought_now, sold_now}
use Rattle.sx_feas.proofs.totals.first_short.Given as goal

abbrev pub invariant-loop-asset : goal.invariant-loop-asset
invariant-loop-asset l =
    (a : ℕ) → a < l.asset → Contains l.net.reached a →
    sold_now l.bounds l.net.arcs a ≤ bought_now l.bounds l.net.arcs a
