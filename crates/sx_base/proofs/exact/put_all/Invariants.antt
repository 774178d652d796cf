use Rattle.std.proofs.Common.{length, ◌-◌}
use Rattle.sx_base.proofs.SoFar.{WrittenSoFar}
use Rattle.sx_base.proofs.exact.put_all.Given as goal

abbrev pub invariant-loop-done : goal.invariant-loop-done
invariant-loop-done g l =
    WrittenSoFar (g.K.Sink.written l.initial.sink) (g.K.Sink.written l.sink)
    (g.K.Sink.strict l.initial.sink) (g.K.Sink.strict l.sink)
    (g.K.Sink.faults l.initial.sink) (g.K.Sink.faults l.sink) l.done l.bytes

abbrev pub decreases-loop-done : goal.decreases-loop-done
decreases-loop-done g l = length l.bytes - l.done
