use Rattle.std.proofs.Common.{◌≡◌, ◌*◌, ◌^◌, ◌≤◌}
use Rattle.sx_dual.specs.Sums.{between, sum_below}
use Rattle.sx_feas.specs.Shape.{traded}
use Rattle.sx_feas.proofs.totals.totals_of.Given as goal

abbrev pub invariant-loop-other : goal.invariant-loop-other
invariant-loop-other l = record {
  sold : l.sold ≡ sum_below l.other (λ b. between (traded l.bounds l.net.arcs) l.asset b);
  bought : l.bought ≡ sum_below l.other (λ s. between (traded l.bounds l.net.arcs) s l.asset);
  sold_range : l.sold ≤ l.other * 2 ^ 102;
  bought_range : l.bought ≤ l.other * 2 ^ 102;
}
