use Rattle.std.proofs.Common.{[], ◌∷◌, refl}
use Rattle.std.proofs.lemmas.Result.{err_from_is_err_and}
use Rattle.sx_input.proofs.Readings.{concludes, nothing_read, one_more, stops}
use Rattle.sx_meaning.specs.Items.{proof}
use Rattle.sx_meaning.proofs.ItemLists.{needed_listed}
use Rattle.sx_record.specs.Tags.{proof_tag}
use Rattle.sx_run.proofs.commands.verifying.verify.Goals as goal
use Rattle.sx_words.specs.declared.command.Command.TheVariants.{Verify}

pub returns-in_err-claim-clause-found : goal.returns-in_err-claim-clause-found
returns-in_err-claim-clause-found g c =
    let p = err_from_is_err_and c.from_residual.result c.from_residual.ensures.1 in
    rw (p.1, p.2) (stops Verify [] 0 _ _ _ c.in_err-claim.field-0.0 (nothing_read Verify _)
    c.in_err-claim.ensures.stops)

pub returns-in_err-end-clause-found : goal.returns-in_err-end-clause-found
returns-in_err-end-clause-found g c =
    let p = err_from_is_err_and c.from_residual-in_err-end.result c.from_residual-in_err-end.ensures.1 in
    let claim = c.in_ok-claim.claim in
    let read = one_more Verify _ _ _ [] (proof claim.held) 0 claim.end (nothing_read Verify _)
    (record { listed = needed_listed proof_tag; form = c.in_ok-claim.ensures.form; goes_on = tt })
    c.in_ok-claim.ensures.took c.in_ok-claim.ensures.end in
    rw (p.1, p.2) (stops Verify (proof claim.held ∷ []) claim.end _ _ _ c.in_err-end.field-0.0 read
    c.in_err-end.ensures.stops)

pub returns-clause-found : goal.returns-clause-found
returns-clause-found g c =
    let claim = c.in_ok-claim.claim in
    let read = one_more Verify _ _ _ [] (proof claim.held) 0 claim.end (nothing_read Verify _)
    (record { listed = needed_listed proof_tag; form = c.in_ok-claim.ensures.form; goes_on = tt })
    c.in_ok-claim.ensures.took c.in_ok-claim.ensures.end in
    concludes Verify (proof claim.held ∷ []) claim.end _ _ _ c.verdict.result read c.in_ok-end.ensures.ended refl
    c.verdict.ensures.concludes
