use Rattle.sx_circ.specs.Labels.{AreLevelFrom}
use Rattle.sx_circ.proofs.Passes.{IsPass}
use Rattle.sx_dual.specs.Tables.{entry_at, high_of, low_of}
use Rattle.sx_circ.proofs.raising.raise.Given as goal

abbrev pub invariant-loop-tail : goal.invariant-loop-tail
invariant-loop-tail l =
    IsPass l.bounds.assets (low_of l.bounds) (high_of l.bounds) (entry_at l.bounds.assets l.values)
    (λ walks k. AreLevelFrom l.bounds.assets (low_of l.bounds) (high_of l.bounds)
    (entry_at l.bounds.assets l.values) walks k)
    l.initial.walks l.walks l.tail l.raised
