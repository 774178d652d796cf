use Rattle.std.proofs.Common.{subst}
use Rattle.sx_base.specs.Outside.{AppendsPrefix}
use Rattle.sx_run.proofs.PuttingPieces.{on_err, parted, prefix_more}
use Rattle.sx_run.proofs.pieces.put_each.Goals as goal

pub returns-in_err-put_all-clause-prefix : goal.returns-in_err-put_all-clause-prefix
returns-in_err-put_all-clause-prefix g c =
    let piece = c.piece-item.result in
    let put : AppendsPrefix (g.K.Sink.written c.loop-piece.sink) (g.K.Sink.written c.put_all.new.sink) piece =
    subst (AppendsPrefix (g.K.Sink.written c.loop-piece.sink) (g.K.Sink.written c.put_all.new.sink)) c.bytes.ensures
    c.in_err-put_all.ensures.prefix in
    on_err c.from_residual.result
    (prefix_more _ _ _ _ piece _ _ c.loop-piece.invariant.written put
    (parted c.args.pieces.now c.loop-piece.piece-index piece c.loop-piece-test.true c.piece-item.is))
