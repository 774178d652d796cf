use Rattle.std.proofs.Common.{◌≡◌, ◌*◌, ◌^◌, ◌≤◌}
use Rattle.sx_dual.specs.Sums.{between, sum_below}
use Rattle.sx_dual.specs.Tables.{value_of}
use Rattle.sx_dual.proofs.balance.value_sold.Given as goal

abbrev pub invariant-loop-buy : goal.invariant-loop-buy
invariant-loop-buy l = record {
  sum : l.value ≡ sum_below l.buy (λ b. between (value_of l.flow) l.asset b);
  bound : l.value ≤ l.buy * 2 ^ 102;
}
