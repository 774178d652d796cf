use Rattle.std.proofs.Common.{[], ◌∷◌, refl}
use Rattle.std.proofs.lemmas.Result.{err_from_is_err_and}
use Rattle.sx_input.proofs.Readings.{concludes, from_zero, has_state, nothing_read, stops}
use Rattle.sx_meaning.specs.Items.{state}
use Rattle.sx_run.proofs.commands.migrating.migrate.Goals as goal
use Rattle.sx_words.specs.declared.command.Command.TheVariants.{Migrate}

pub returns-in_err-opening-clause-found : goal.returns-in_err-opening-clause-found
returns-in_err-opening-clause-found g c =
    let p = err_from_is_err_and c.from_residual.result c.from_residual.ensures.1 in
    rw (p.1, p.2) (stops Migrate [] 0 _ _ _ c.in_err-opening.field-0.0 (nothing_read Migrate _)
    c.in_err-opening.ensures.stops)

pub returns-in_err-end-clause-found : goal.returns-in_err-end-clause-found
returns-in_err-end-clause-found g c =
    let p = err_from_is_err_and c.from_residual-in_err-end.result c.from_residual-in_err-end.ensures.1 in
    let opening = c.in_ok-opening.opening in
    let first = has_state Migrate _ _ opening.held opening.end refl tt c.in_ok-opening.ensures.form
    c.in_ok-opening.ensures.took (from_zero _ _ c.in_ok-opening.ensures.end) in
    rw (p.1, p.2) (stops Migrate (state opening.held ∷ []) opening.end _ _ _ c.in_err-end.field-0.0 first
    c.in_err-end.ensures.stops)

pub returns-clause-found : goal.returns-clause-found
returns-clause-found g c =
    let opening = c.in_ok-opening.opening in
    let first = has_state Migrate _ _ opening.held opening.end refl tt c.in_ok-opening.ensures.form
    c.in_ok-opening.ensures.took (from_zero _ _ c.in_ok-opening.ensures.end) in
    concludes Migrate (state opening.held ∷ []) opening.end _ _ _ c.newest.result first c.in_ok-end.ensures.ended refl
    c.newest.ensures.concludes
