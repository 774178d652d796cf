use Rattle.std.proofs.Common.{ℕ, List, Option, rules, subst, sym, ◌∙◌}
use Rattle.std.proofs.lemmas.Result.{err_from_is_err_and}
use Rattle.std.specs.Prelude.{IsTrue}
use Rattle.sx_run.proofs.Taking.{begins, fails, fewer, finishes, goes_on, never_began, stops}
use Rattle.sx_run.proofs.commands.following.follow.Goals as goal
use Rattle.sx_input.proofs.Readings.{from_zero, steady_too}
use Rattle.sx_record.specs.declared.frame.Record.{Record}

pub returns-in_err-opening-clause-found : goal.returns-in_err-opening-clause-found
returns-in_err-opening-clause-found g c =
    let p = err_from_is_err_and c.from_residual.result c.from_residual.ensures.1 in
    rw (p.1, p.2) (never_began _ _ c.in_err-opening.field-0.0 c.in_err-opening.ensures.stops)

pub loop-place-init : goal.loop-place-init
loop-place-init g c = record {
  taken = begins _ _ c.in_ok-opening.opening.held c.in_ok-start.field-0 c.in_ok-opening.opening.end
      c.in_ok-opening.ensures.form c.in_ok-start.ensures c.in_ok-opening.ensures.took
      (from_zero _ _ c.in_ok-opening.ensures.end) c.in_ok-opening.ensures.near;
  falls_never = search rules;
  kept = search rules;
  steady = search rules;
}

pub returns-in_err-found-clause-found : goal.returns-in_err-found-clause-found
returns-in_err-found-clause-found g c =
    let p = err_from_is_err_and c.from_residual-in_err-found.result c.from_residual-in_err-found.ensures.1 in
    rw (p.1, p.2) (stops _ _ _ c.loop-place.place c.in_err-found.field-0.0 c.loop-place.invariant.taken
    (rw c.tags.ensures at c.in_err-found.ensures.stops))

pub returns-in_err-place-clause-found : goal.returns-in_err-place-clause-found
returns-in_err-place-clause-found g c =
    let p = err_from_is_err_and c.from_residual-in_err-place.result c.from_residual-in_err-place.ensures.1 in
    rw (p.1, p.2) (fails _ _ _ c.loop-place.place c.in-Some.found c.in_err-place.field-0.0
    c.loop-place.invariant.taken
    (rw (c.tags.ensures, c.in-Some.is) at c.in_ok-found.ensures.reads) c.in_err-place.ensures)

pub loop-place-preserved : goal.loop-place-preserved
loop-place-preserved g c = record {
  taken = goes_on _ _ _ c.loop-place.place c.in_ok-place.place c.in-Some.found c.loop-place.invariant.taken
      (rw c.in-Some.is at c.in_ok-found.ensures.encoded)
      (rw (c.tags.ensures, c.in-Some.is) at c.in_ok-found.ensures.known) c.in_ok-place.ensures;
  falls_never = search rules;
  kept = search rules;
  steady = search rules;
}

pub returns-clause-found : goal.returns-clause-found
returns-clause-found g c =
    finishes _ _ _ c.loop-place.place _ c.loop-place.invariant.taken
    (rw c.in_default.is at c.in_ok-found.ensures.encoded) c.in_ok-followed.ensures

pub returns-in_err-found-clause-steady : goal.returns-in_err-found-clause-steady
returns-in_err-found-clause-steady g c =
    let p = err_from_is_err_and c.from_residual-in_err-found.result c.from_residual-in_err-found.ensures.1 in
    rw (p.1, p.2) (steady_too (Option Record) (List ℕ) c.in_err-found.field-0.0 _ _
    (λ next is. next (subst IsTrue (sym c.loop-place.invariant.kept) is) ∙ c.loop-place.invariant.steady is)
    c.in_err-found.ensures.steady)

pub loop-place-smaller : goal.loop-place-smaller
loop-place-smaller g c = fewer c.loop-place.place c.in_ok-place.place c.in-Some.found c.in_ok-place.ensures
