use Rattle.std.proofs.Common.{[], ◌∷◌, List, ℕ, refl, sym, subst, ◌∙◌}
use Rattle.std.specs.Prelude.{IsTrue}
use Rattle.std.proofs.lemmas.Result.{err_from_is_err_and}
use Rattle.sx_input.proofs.Readings.{concludes, has_state, nothing_read, one_more, steady_too, stops}
use Rattle.sx_meaning.specs.Items.{block, state}
use Rattle.sx_meaning.proofs.ItemLists.{needed_listed}
use Rattle.sx_record.specs.Tags.{block_tag}
use Rattle.sx_run.proofs.commands.checking.check.Goals as goal
use Rattle.sx_words.specs.declared.command.Command.TheVariants.{Check}

pub returns-in_err-opening-clause-found : goal.returns-in_err-opening-clause-found
returns-in_err-opening-clause-found g c =
    let p = err_from_is_err_and c.from_residual.result c.from_residual.ensures.1 in
    rw (p.1, p.2) (stops Check [] 0 _ _ _ c.in_err-opening.field-0.0 (nothing_read Check _)
    c.in_err-opening.ensures.stops)

pub returns-in_err-incoming-clause-found : goal.returns-in_err-incoming-clause-found
returns-in_err-incoming-clause-found g c =
    let p = err_from_is_err_and c.from_residual-in_err-incoming.result c.from_residual-in_err-incoming.ensures.1 in
    let opening = c.in_ok-opening.opening in
    let first = has_state Check _ _ opening.held.ledger opening.end refl tt c.in_ok-opening.ensures.form
    c.in_ok-opening.ensures.took c.in_ok-opening.ensures.end in
    rw (p.1, p.2) (stops Check (state opening.held.ledger ∷ []) opening.end _ _ _ c.in_err-incoming.field-0.0 first
    c.in_err-incoming.ensures.stops)

pub returns-in_err-end-clause-found : goal.returns-in_err-end-clause-found
returns-in_err-end-clause-found g c =
    let p = err_from_is_err_and c.from_residual-in_err-end.result c.from_residual-in_err-end.ensures.1 in
    let opening = c.in_ok-opening.opening in
    let incoming = c.in_ok-incoming.incoming in
    let first = has_state Check _ _ opening.held.ledger opening.end refl tt c.in_ok-opening.ensures.form
    c.in_ok-opening.ensures.took c.in_ok-opening.ensures.end in
    let both = one_more Check _ _ _ (state opening.held.ledger ∷ []) (block incoming.held.block) opening.end
    incoming.end
    first (record { listed = needed_listed block_tag; form = c.in_ok-incoming.ensures.form; goes_on = tt })
    c.in_ok-incoming.ensures.took c.in_ok-incoming.ensures.end in
    rw (p.1, p.2) (stops Check (state opening.held.ledger ∷ block incoming.held.block ∷ []) incoming.end _ _ _
    c.in_err-end.field-0.0 both c.in_err-end.ensures.stops)

pub returns-clause-found : goal.returns-clause-found
returns-clause-found g c =
    let opening = c.in_ok-opening.opening in
    let incoming = c.in_ok-incoming.incoming in
    let first = has_state Check _ _ opening.held.ledger opening.end refl tt c.in_ok-opening.ensures.form
    c.in_ok-opening.ensures.took c.in_ok-opening.ensures.end in
    let both = one_more Check _ _ _ (state opening.held.ledger ∷ []) (block incoming.held.block) opening.end
    incoming.end
    first (record { listed = needed_listed block_tag; form = c.in_ok-incoming.ensures.form; goes_on = tt })
    c.in_ok-incoming.ensures.took c.in_ok-incoming.ensures.end in
    concludes Check (state opening.held.ledger ∷ block incoming.held.block ∷ []) incoming.end _ _ _ c.verdict.result
    both
    c.in_ok-end.ensures.ended refl c.verdict.ensures.concludes

pub returns-in_err-end-clause-steady : goal.returns-in_err-end-clause-steady
returns-in_err-end-clause-steady g c =
    let p = err_from_is_err_and c.from_residual-in_err-end.result c.from_residual-in_err-end.ensures.1 in
    rw (p.1, p.2) (steady_too (Unit {0}) (List ℕ) c.in_err-end.field-0.0 _ _
    (λ ended is.
    let first = subst IsTrue (sym c.in_ok-opening.ensures.kept) is in
    ended (subst IsTrue (sym c.in_ok-incoming.ensures.kept) first)
    ∙ c.in_ok-incoming.ensures.steady first ∙ c.in_ok-opening.ensures.steady is)
    c.in_err-end.ensures.steady)
