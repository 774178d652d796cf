use Rattle.std.proofs.Common.{◌≡◌, ◌*◌, ◌-◌, ◌^◌, length}
use Rattle.sx_circ.specs.Residual.{KeepsBalances, KeepsBounds}
use Rattle.sx_dual.specs.Circulation.{traded_value}
use Rattle.sx_dual.specs.Tables.{entry_at}
use Rattle.sx_circ.proofs.solver.cancel_all.Given as goal

abbrev pub invariant-loop-cycle : goal.invariant-loop-cycle
invariant-loop-cycle l = record {
  keeps : KeepsBounds l.bounds l.values;
  balanced : KeepsBalances l.bounds.assets (entry_at l.bounds.assets l.initial.values)
      (entry_at l.bounds.assets l.values);
  count : length l.walks ≡ l.bounds.assets;
}

abbrev pub decreases-loop-cycle : goal.decreases-loop-cycle
decreases-loop-cycle l =
    l.bounds.assets * (l.bounds.assets * 2 ^ 102) - traded_value l.bounds.assets (entry_at l.bounds.assets l.values)
