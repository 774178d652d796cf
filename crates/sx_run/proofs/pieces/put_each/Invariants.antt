use Rattle.std.proofs.Common.{take}
use Rattle.std.specs.List.{flat_map}
use Rattle.sx_run.proofs.PuttingPieces.{PutSoFar}
use Rattle.sx_run.proofs.pieces.put_each.Given as goal

abbrev pub invariant-loop-piece : goal.invariant-loop-piece
invariant-loop-piece g l =
    PutSoFar (g.K.Sink.written l.initial.sink) (g.K.Sink.written l.sink)
    (g.K.Sink.strict l.initial.sink) (g.K.Sink.strict l.sink)
    (g.K.Sink.faults l.initial.sink) (g.K.Sink.faults l.sink)
    (flat_map (λ bytes. bytes) (take l.piece-index l.pieces))
