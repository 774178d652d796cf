use Rattle.std.proofs.Common.{◌≢◌}
use Rattle.sx_circ.specs.Labels.{ArePairLevel}
use Rattle.sx_circ.proofs.Passes.{IsPass}
use Rattle.sx_dual.specs.Tables.{entry_at, high_of, low_of}
use Rattle.sx_circ.proofs.raising.raise_from.Given as goal

abbrev pub invariant-loop-head : goal.invariant-loop-head
invariant-loop-head l =
    IsPass l.bounds.assets (low_of l.bounds) (high_of l.bounds) (entry_at l.bounds.assets l.values)
    (λ walks k. l.tail ≢ k → ArePairLevel (low_of l.bounds) (high_of l.bounds) (entry_at l.bounds.assets l.values)
    walks l.tail k)
    l.initial.walks l.walks l.head l.raised
