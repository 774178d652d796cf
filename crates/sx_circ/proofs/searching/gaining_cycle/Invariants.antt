use Rattle.std.proofs.Common.{◌*◌, ◌-◌, length}
use Rattle.sx_circ.specs.Labels.{AreLabels, total_height}
use Rattle.sx_dual.specs.Tables.{entry_at, high_of, low_of}
use Rattle.sx_circ.proofs.searching.gaining_cycle.Given as goal

abbrev pub invariant-raises : goal.invariant-raises
invariant-raises l =
    AreLabels l.bounds.assets (low_of l.bounds) (high_of l.bounds) (entry_at l.bounds.assets l.values) l.walks

abbrev pub decreases-raises : goal.decreases-raises
decreases-raises l = length l.walks * 32 - total_height l.walks
