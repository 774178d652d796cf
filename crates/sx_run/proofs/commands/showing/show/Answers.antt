use Rattle.std.proofs.Common.{[], ◌∷◌, refl}
use Rattle.std.proofs.lemmas.Result.{err_from_is_err_and}
use Rattle.sx_input.proofs.Faults.{listed_stops}
use Rattle.sx_input.proofs.Readings.{concludes, nothing_read, stops}
use Rattle.sx_meaning.specs.Findings.{shown_tags}
use Rattle.sx_run.specs.Showing.{item_of}
use Rattle.sx_run.proofs.Shown.{has_record}
use Rattle.sx_run.proofs.commands.showing.show.Goals as goal
use Rattle.sx_words.specs.declared.command.Command.TheVariants.{Show}

pub returns-in_err-found-clause-found : goal.returns-in_err-found-clause-found
returns-in_err-found-clause-found g c =
    let p = err_from_is_err_and c.from_residual.result c.from_residual.ensures.1 in
    rw (p.1, p.2) (stops Show [] 0 _ _ _ c.in_err-found.field-0.0 (nothing_read Show _) c.in_err-found.ensures.stops)

pub returns-in_err-shown-clause-found : goal.returns-in_err-shown-clause-found
returns-in_err-shown-clause-found g c =
    let p = err_from_is_err_and c.from_residual-in_err-shown.result c.from_residual-in_err-shown.ensures.1 in
    rw (p.1, p.2) (stops Show [] 0 _ _ _ c.in_err-shown.field-0.0 (nothing_read Show _)
    (listed_stops shown_tags 0 _ _ c.in_ok-found.found c.in_err-shown.field-0.0 c.in_ok-found.ensures.reads
    c.in_err-shown.ensures.exact))

pub returns-in_err-end-clause-found : goal.returns-in_err-end-clause-found
returns-in_err-end-clause-found g c =
    let p = err_from_is_err_and c.from_residual-in_err-end.result c.from_residual-in_err-end.ensures.1 in
    let item = item_of c.in_ok-shown.shown in
    let read = has_record _ _ c.in_ok-found.found item c.end_of.result c.in_ok-found.ensures.known
    c.in_ok-found.ensures.encoded c.in_ok-shown.ensures.form c.in_ok-shown.ensures.tag c.in_ok-shown.ensures.encoded
    c.end_of.ensures in
    rw (p.1, p.2) (stops Show (item ∷ []) c.end_of.result _ _ _ c.in_err-end.field-0.0 read c.in_err-end.ensures.stops)

pub returns-clause-found : goal.returns-clause-found
returns-clause-found g c =
    let item = item_of c.in_ok-shown.shown in
    let read = has_record _ _ c.in_ok-found.found item c.end_of.result c.in_ok-found.ensures.known
    c.in_ok-found.ensures.encoded c.in_ok-shown.ensures.form c.in_ok-shown.ensures.tag c.in_ok-shown.ensures.encoded
    c.end_of.ensures in
    concludes Show (item ∷ []) c.end_of.result _ _ _ c.text_of.result read c.in_ok-end.ensures.ended refl
    c.text_of.ensures.concludes
