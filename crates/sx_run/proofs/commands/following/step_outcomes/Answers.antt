use Rattle.std.proofs.lemmas.Result.{err_from_is_err_and}
use Rattle.sx_run.proofs.Taking.{bad_outcomes, outcomes_step}
use Rattle.sx_run.proofs.commands.following.step_outcomes.Goals as goal

pub returns : goal.returns
returns g c =
    outcomes_step c.args.place c.args.found.now c.requires.place c.requires.found _ c.in_ok-decoded.field-0
    c.requires.tag c.in_ok-decoded.ensures.encoded c.in_ok-decoded.ensures.form c.end_of.ensures

pub returns-in_err-decoded : goal.returns-in_err-decoded
returns-in_err-decoded g c =
    let p = err_from_is_err_and c.from_residual.result c.from_residual.ensures.1 in
    rw (p.1, p.2) (bad_outcomes c.args.place c.args.found.now c.in_err-decoded.field-0.0 c.requires.tag
    c.in_err-decoded.ensures.exact)
