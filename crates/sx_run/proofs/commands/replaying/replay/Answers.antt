use Rattle.std.proofs.Common.{rules}
use Rattle.std.proofs.lemmas.Result.{err_from_is_err_and}
use Rattle.sx_run.proofs.Replays.{begins, fails, finishes, goes_on, never_began, stops}
use Rattle.sx_run.proofs.commands.replaying.replay.Goals as goal

pub returns-in_err-opening-clause-found : goal.returns-in_err-opening-clause-found
returns-in_err-opening-clause-found g c =
    let p = err_from_is_err_and c.from_residual.result c.from_residual.ensures.1 in
    rw (p.1, p.2) (never_began _ _ c.in_err-opening.field-0.0 c.in_err-opening.ensures.stops)

pub loop-place-init : goal.loop-place-init
loop-place-init g c = record {
  replayed = begins _ _ c.in_ok-opening.opening.held c.in_ok-opening.opening.end c.in_ok-opening.ensures.form
      c.in_ok-opening.ensures.head c.in_ok-opening.ensures.took c.in_ok-opening.ensures.end
      c.in_ok-opening.ensures.near;
  falls_never = search rules;
  kept = search rules;
  steady = search rules;
}

pub returns-in_err-found-clause-found : goal.returns-in_err-found-clause-found
returns-in_err-found-clause-found g c =
    let p = err_from_is_err_and c.from_residual-in_err-found.result c.from_residual-in_err-found.ensures.1 in
    rw (p.1, p.2) (stops _ _ _ c.loop-place.place c.in_err-found.field-0.0 c.loop-place.invariant.replayed
    (rw c.tags.ensures at c.in_err-found.ensures.stops))

pub returns-in_err-place-clause-found : goal.returns-in_err-place-clause-found
returns-in_err-place-clause-found g c =
    let p = err_from_is_err_and c.from_residual-in_err-place.result c.from_residual-in_err-place.ensures.1 in
    rw (p.1, p.2) (fails _ _ _ c.loop-place.place c.in-Some.found c.in_err-place.field-0.0
    c.loop-place.invariant.replayed
    (rw (c.tags.ensures, c.in-Some.is) at c.in_ok-found.ensures.reads)
    (rw c.in-Some.is at c.in_ok-found.ensures.encoded) c.in_err-place.ensures)

pub loop-place-preserved : goal.loop-place-preserved
loop-place-preserved g c = record {
  replayed = goes_on _ _ _ c.loop-place.place c.in_ok-place.place c.in-Some.found c.loop-place.invariant.replayed
      (rw c.in-Some.is at c.in_ok-found.ensures.encoded)
      (rw (c.tags.ensures, c.in-Some.is) at c.in_ok-found.ensures.known) c.in_ok-place.ensures;
  falls_never = search rules;
  kept = search rules;
  steady = search rules;
}

pub returns-clause-found : goal.returns-clause-found
returns-clause-found g c =
    finishes _ _ _ c.loop-place.place _ c.loop-place.invariant.replayed
    (rw c.in_default.is at c.in_ok-found.ensures.encoded) c.in_ok-into_state.ensures
