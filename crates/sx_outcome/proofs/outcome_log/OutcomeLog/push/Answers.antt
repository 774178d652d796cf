use Rattle.std.proofs.Common.{◌++◌, ◌∷◌, [], ap, ◌∙◌}
use Rattle.sx_outcome.specs.Packed.{Logged}
use Rattle.sx_outcome.proofs.PackedLaws.{outcomes_push}
use Rattle.sx_outcome.proofs.outcome_log.OutcomeLog.push.Goals as goal

pub returns-clause-outcomes : goal.returns-clause-outcomes
returns-clause-outcomes c =
    rw (c.push_figures.ensures.items, c.push_reserved.ensures.items, c.kind.ensures)
    (outcomes_push c.self.inside.kinds.items c.self.inside.overdrafts.items c.args.outcome c.self.invariant.0
    ∙ ap (λ (log : Logged). log.outcomes ++ c.args.outcome ∷ []) c.self.view_is)
