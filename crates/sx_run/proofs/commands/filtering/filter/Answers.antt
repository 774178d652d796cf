use Rattle.std.proofs.Common.{[], ◌∷◌, List, ℕ, refl, sym, subst, ◌∙◌}
use Rattle.std.specs.Prelude.{IsTrue}
use Rattle.std.proofs.lemmas.Result.{err_from_is_err_and}
use Rattle.sx_input.specs.Found.{ConcludesAs}
use Rattle.sx_input.proofs.Readings.{concludes, from_zero, has_state, one_more, steady_too, stops}
use Rattle.sx_meaning.specs.Items.{candidates, state}
use Rattle.sx_meaning.proofs.ItemLists.{needed_listed}
use Rattle.sx_ledger.specs.declared.parts.Parts.{Parts}
use Rattle.sx_record.specs.Tags.{candidates_tag}
use Rattle.sx_words.specs.declared.command.Command.TheVariants.{Filter}
use Rattle.sx_run.proofs.commands.filtering.filter.Goals as goal

pub returns-in_err-candidates-clause-found : goal.returns-in_err-candidates-clause-found
returns-in_err-candidates-clause-found g c =
    let p = err_from_is_err_and c.from_residual-in_err-candidates.result c.from_residual-in_err-candidates.ensures.1 in
    let words = Filter c.args.workers in
    let opening = c.in_ok-opening.opening in
    let first = has_state words _ _ opening.held opening.end refl tt c.in_ok-opening.ensures.form
    c.in_ok-opening.ensures.took (from_zero _ _ c.in_ok-opening.ensures.end) in
    rw (p.1, p.2) (stops words (state opening.held ∷ []) opening.end _ _ _ c.in_err-candidates.field-0.0 first
    c.in_err-candidates.ensures.stops)

pub returns-in_err-end-clause-found : goal.returns-in_err-end-clause-found
returns-in_err-end-clause-found g c =
    let p = err_from_is_err_and c.from_residual-in_err-end.result c.from_residual-in_err-end.ensures.1 in
    let words = Filter c.args.workers in
    let opening = c.in_ok-opening.opening in
    let txs = c.in_ok-candidates.candidates in
    let first = has_state words _ _ opening.held opening.end refl tt c.in_ok-opening.ensures.form
    c.in_ok-opening.ensures.took (from_zero _ _ c.in_ok-opening.ensures.end) in
    let both = one_more words _ _ _ (state opening.held ∷ []) (candidates txs.held) opening.end txs.end first
    (record { listed = needed_listed candidates_tag; form = c.in_ok-candidates.ensures.form; goes_on = tt })
    c.in_ok-candidates.ensures.took c.in_ok-candidates.ensures.end in
    rw (p.1, p.2) (stops words (state opening.held ∷ candidates txs.held ∷ []) txs.end _ _ _
    c.in_err-end.field-0.0 both c.in_err-end.ensures.stops)

pub returns-clause-found : goal.returns-clause-found
returns-clause-found g c =
    let words = Filter c.args.workers in
    let opening = c.in_ok-opening.opening in
    let txs = c.in_ok-candidates.candidates in
    let first = has_state words _ _ opening.held opening.end refl tt c.in_ok-opening.ensures.form
    c.in_ok-opening.ensures.took (from_zero _ _ c.in_ok-opening.ensures.end) in
    let both = one_more words _ _ _ (state opening.held ∷ []) (candidates txs.held) opening.end txs.end first
    (record { listed = needed_listed candidates_tag; form = c.in_ok-candidates.ensures.form; goes_on = tt })
    c.in_ok-candidates.ensures.took c.in_ok-candidates.ensures.end in
    concludes words (state opening.held ∷ candidates txs.held ∷ []) txs.end _ _ _ c.kept.result both
    c.in_ok-end.ensures.ended refl
    (subst (λ (parts : Parts). ConcludesAs words (state parts ∷ candidates txs.held ∷ []) c.kept.result)
    c.in_ok-ledger.ensures c.kept.ensures.concludes)

pub returns-in_err-end-clause-steady : goal.returns-in_err-end-clause-steady
returns-in_err-end-clause-steady g c =
    let p = err_from_is_err_and c.from_residual-in_err-end.result c.from_residual-in_err-end.ensures.1 in
    rw (p.1, p.2) (steady_too (Unit {0}) (List ℕ) c.in_err-end.field-0.0 _ _
    (λ ended is.
    let first = subst IsTrue (sym c.in_ok-opening.ensures.kept) is in
    ended (subst IsTrue (sym c.in_ok-candidates.ensures.kept) first)
    ∙ c.in_ok-candidates.ensures.steady first ∙ c.in_ok-opening.ensures.steady is)
    c.in_err-end.ensures.steady)
