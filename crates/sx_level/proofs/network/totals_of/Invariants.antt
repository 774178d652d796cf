use Rattle.std.proofs.Common.{◌≡◌, ◌*◌, ◌^◌, ◌≤◌}
use Rattle.sx_dual.specs.Sums.{between, sum_below}
use Rattle.sx_dual.specs.Tables.{high_of}
use Rattle.sx_level.proofs.network.totals_of.Given as goal

abbrev pub invariant-loop-other : goal.invariant-loop-other
invariant-loop-other l = record {
  sold : l.sold ≡ sum_below l.other (λ b. between (high_of l.bounds) l.asset b);
  bought : l.bought ≡ sum_below l.other (λ s. between (high_of l.bounds) s l.asset);
  sold_range : l.sold ≤ l.other * 2 ^ 102;
  bought_range : l.bought ≤ l.other * 2 ^ 102;
}
