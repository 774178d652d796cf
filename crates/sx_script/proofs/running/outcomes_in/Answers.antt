use Rattle.std.proofs.Common.{◌∙◌}
use Rattle.sx_script.proofs.Openings.{if_ok, whole_outcomes}
use Rattle.sx_script.proofs.running.outcomes_in.Goals as goal

pub returns : goal.returns
returns c =
    if_ok c.run_opened.result _ _
    (λ outcomes is. is
    ∙ whole_outcomes c.args.setting.now c.args.candidates.now c.args.actors c.working-n.result c.args.turns.now
    c.requires.own c.requires.plan c.working-n.ensures.number)
    c.run_opened.ensures
