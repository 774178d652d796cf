use Rattle.std.proofs.Common.{[], ◌∷◌, refl}
use Rattle.std.proofs.lemmas.Result.{err_from_is_err_and}
use Rattle.sx_input.proofs.Readings.{concludes, from_zero, has_state, nothing_read, one_more, stops}
use Rattle.sx_meaning.specs.Items.{candidates, script, state}
use Rattle.sx_meaning.proofs.ItemLists.{needed_listed}
use Rattle.sx_record.specs.Tags.{candidates_tag, script_tag}
use Rattle.sx_run.proofs.commands.interleaving.interleave.Goals as goal
use Rattle.sx_words.specs.declared.command.Command.TheVariants.{Interleave}

pub returns-in_err-opening-clause-found : goal.returns-in_err-opening-clause-found
returns-in_err-opening-clause-found g c =
    let p = err_from_is_err_and c.from_residual.result c.from_residual.ensures.1 in
    rw (p.1, p.2) (stops Interleave [] 0 _ _ _ c.in_err-opening.field-0.0 (nothing_read Interleave _)
    c.in_err-opening.ensures.stops)

pub returns-in_err-candidates-clause-found : goal.returns-in_err-candidates-clause-found
returns-in_err-candidates-clause-found g c =
    let p = err_from_is_err_and c.from_residual-in_err-candidates.result c.from_residual-in_err-candidates.ensures.1 in
    let opening = c.in_ok-opening.opening in
    let first = has_state Interleave _ _ opening.held opening.end refl tt c.in_ok-opening.ensures.form
    c.in_ok-opening.ensures.took (from_zero _ _ c.in_ok-opening.ensures.end) in
    rw (p.1, p.2) (stops Interleave (state opening.held ∷ []) opening.end _ _ _ c.in_err-candidates.field-0.0 first
    c.in_err-candidates.ensures.stops)

pub returns-in_err-script-clause-found : goal.returns-in_err-script-clause-found
returns-in_err-script-clause-found g c =
    let p = err_from_is_err_and c.from_residual-in_err-script.result c.from_residual-in_err-script.ensures.1 in
    let opening = c.in_ok-opening.opening in
    let txs = c.in_ok-candidates.candidates in
    let first = has_state Interleave _ _ opening.held opening.end refl tt c.in_ok-opening.ensures.form
    c.in_ok-opening.ensures.took (from_zero _ _ c.in_ok-opening.ensures.end) in
    let both = one_more Interleave _ _ _ (state opening.held ∷ []) (candidates txs.held) opening.end txs.end first
    (record { listed = needed_listed candidates_tag; form = c.in_ok-candidates.ensures.form; goes_on = tt })
    c.in_ok-candidates.ensures.took c.in_ok-candidates.ensures.end in
    rw (p.1, p.2) (stops Interleave (state opening.held ∷ candidates txs.held ∷ []) txs.end _ _ _
    c.in_err-script.field-0.0 both c.in_err-script.ensures.stops)

pub returns-in_err-end-clause-found : goal.returns-in_err-end-clause-found
returns-in_err-end-clause-found g c =
    let p = err_from_is_err_and c.from_residual-in_err-end.result c.from_residual-in_err-end.ensures.1 in
    let opening = c.in_ok-opening.opening in
    let txs = c.in_ok-candidates.candidates in
    let turns = c.in_ok-script.script in
    let first = has_state Interleave _ _ opening.held opening.end refl tt c.in_ok-opening.ensures.form
    c.in_ok-opening.ensures.took (from_zero _ _ c.in_ok-opening.ensures.end) in
    let both = one_more Interleave _ _ _ (state opening.held ∷ []) (candidates txs.held) opening.end txs.end first
    (record { listed = needed_listed candidates_tag; form = c.in_ok-candidates.ensures.form; goes_on = tt })
    c.in_ok-candidates.ensures.took c.in_ok-candidates.ensures.end in
    let all = one_more Interleave _ _ _ (state opening.held ∷ candidates txs.held ∷ []) (script turns.held) txs.end
    turns.end both (record { listed = needed_listed script_tag; form = c.in_ok-script.ensures.form; goes_on = tt })
    c.in_ok-script.ensures.took c.in_ok-script.ensures.end in
    rw (p.1, p.2) (stops Interleave (state opening.held ∷ candidates txs.held ∷ script turns.held ∷ []) turns.end _ _ _
    c.in_err-end.field-0.0 all c.in_err-end.ensures.stops)

pub returns-clause-found : goal.returns-clause-found
returns-clause-found g c =
    let opening = c.in_ok-opening.opening in
    let txs = c.in_ok-candidates.candidates in
    let turns = c.in_ok-script.script in
    let first = has_state Interleave _ _ opening.held opening.end refl tt c.in_ok-opening.ensures.form
    c.in_ok-opening.ensures.took (from_zero _ _ c.in_ok-opening.ensures.end) in
    let both = one_more Interleave _ _ _ (state opening.held ∷ []) (candidates txs.held) opening.end txs.end first
    (record { listed = needed_listed candidates_tag; form = c.in_ok-candidates.ensures.form; goes_on = tt })
    c.in_ok-candidates.ensures.took c.in_ok-candidates.ensures.end in
    let all = one_more Interleave _ _ _ (state opening.held ∷ candidates txs.held ∷ []) (script turns.held) txs.end
    turns.end both (record { listed = needed_listed script_tag; form = c.in_ok-script.ensures.form; goes_on = tt })
    c.in_ok-script.ensures.took c.in_ok-script.ensures.end in
    concludes Interleave (state opening.held ∷ candidates txs.held ∷ script turns.held ∷ []) turns.end _ _ _
    c.outcomes.result all c.in_ok-end.ensures.ended refl c.outcomes.ensures.concludes
