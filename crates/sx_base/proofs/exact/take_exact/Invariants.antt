use Rattle.std.proofs.Common.{length, ◌-◌}
use Rattle.sx_base.proofs.SoFar.{FilledSoFar}
use Rattle.sx_base.proofs.exact.take_exact.Given as goal

abbrev pub invariant-loop-got : goal.invariant-loop-got
invariant-loop-got g l =
    FilledSoFar (g.S.Source.left l.initial.source) (g.S.Source.left l.source)
    (g.S.Source.strict l.initial.source) (g.S.Source.strict l.source)
    (g.S.Source.faults l.initial.source) (g.S.Source.faults l.source) l.got l.initial.into l.into

abbrev pub decreases-loop-got : goal.decreases-loop-got
decreases-loop-got g l = length l.initial.into - l.got
