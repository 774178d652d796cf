use Rattle.std.proofs.Common.{false}
use Rattle.std.proofs.lemmas.Result.{err_from_is_err_and}
use Rattle.sx_input.proofs.Faults.{missing, no_record}
use Rattle.sx_meaning.specs.Findings.{shown_tags}
use Rattle.sx_run.proofs.commands.showing.first.Goals as goal

pub returns-in_err-found-clause-stops : goal.returns-in_err-found-clause-stops
returns-in_err-found-clause-stops g c =
    let p = err_from_is_err_and c.from_residual.result c.from_residual.ensures.1 in
    rw (p.1, p.2) (no_record shown_tags false false 0 _ _ c.in_err-found.field-0.0 c.in_err-found.ensures.stops)

pub returns-in-None-clause-stops : goal.returns-in-None-clause-stops
returns-in-None-clause-stops g c =
    rw c.stop_at.ensures (missing shown_tags false 0 _ _ (rw c.in-None.is at c.in_ok-found.ensures.reads))
