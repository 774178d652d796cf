use Rattle.std.proofs.Common.{◌≡◌, ◌*◌, ◌^◌, ◌≤◌}
use Rattle.sx_dual.specs.Circulation.{sold}
use Rattle.sx_dual.specs.Sums.{sum_below}
use Rattle.sx_dual.specs.Tables.{value_of}
use Rattle.sx_dual.proofs.flow.Flow.value.Given as goal

abbrev pub invariant-loop-sell : goal.invariant-loop-sell
invariant-loop-sell l = record {
  sum : l.value ≡ sum_below l.sell (λ s. sold l.self.assets (value_of l.self) s);
  bound : l.value ≤ l.sell * (31 * 2 ^ 102);
}
