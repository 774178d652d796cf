use Rattle.std.proofs.Common.{◌≡◌, ◌*◌, ◌^◌, ◌≤◌}
use Rattle.sx_dual.specs.Sums.{between, sum_below}
use Rattle.sx_dual.specs.Tables.{value_of}
use Rattle.sx_dual.proofs.balance.value_bought.Given as goal

abbrev pub invariant-loop-sell : goal.invariant-loop-sell
invariant-loop-sell l = record {
  sum : l.value ≡ sum_below l.sell (λ s. between (value_of l.flow) s l.asset);
  bound : l.value ≤ l.sell * 2 ^ 102;
}
