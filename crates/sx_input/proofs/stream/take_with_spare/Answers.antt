use Rattle.std.proofs.Common.{◌∙◌}
use Rattle.std.proofs.lemmas.Result.{err_from_is_err_and}
use Rattle.sx_input.proofs.Faults.{payload_stops}
use Rattle.sx_input.proofs.TakenRecords.{ends_after, took_item}
use Rattle.sx_input.proofs.stream.take_with_spare.Goals as goal

pub returns-in_err-held-clause-stops : goal.returns-in_err-held-clause-stops
returns-in_err-held-clause-stops g c =
    let p = err_from_is_err_and c.from_residual-in_err-held.result c.from_residual-in_err-held.ensures.1 in
    rw (p.1, p.2) (payload_stops g.P.Payload.TAG c.args.at _ _ c.in_ok-found.found c.in_err-held.field-0.0
    (rw c.TAG.ensures at c.in_ok-found.ensures.reads) (c.in_ok-found.ensures.tag ∙ c.TAG.ensures)
    c.in_err-held.ensures.exact)

pub returns-clause-took : goal.returns-clause-took
returns-clause-took g c =
    took_item g.P.Payload.TAG c.in_ok-found.found.payload (g.P.Payload.item c.in_ok-held.held) c.in_ok-held.ensures.tag
    c.in_ok-held.ensures.encoded _ _ (rw c.TAG.ensures at c.in_ok-found.ensures.encoded)

pub returns-clause-end : goal.returns-clause-end
returns-clause-end g c =
    ends_after g.P.Payload.TAG c.in_ok-found.found.payload (g.P.Payload.item c.in_ok-held.held) c.in_ok-held.ensures.tag
    c.in_ok-held.ensures.encoded c.args.at c.in_ok-found.found.at c.end_of-end.result c.in_ok-found.ensures.place
    c.end_of-end.ensures
