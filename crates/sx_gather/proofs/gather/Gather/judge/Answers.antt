use Rattle.std.proofs.Common.{sym, ap, ◌∙◌}
use Rattle.sx_ledger.specs.Static.{static_of}
use Rattle.sx_gather.specs.Passes.{Gathering}
use Rattle.sx_gather.proofs.Steps.{static_decides}
use Rattle.sx_gather.proofs.gather.Gather.judge.Goals as goal

pub returns-in-Err-clause-decides : goal.returns-in-Err-clause-decides
returns-in-Err-clause-decides c =
    static_decides c.args.self.now.parts c.args.self.now.plan c.args.tx.now c.args.seats.now c.in-Err.why
    (ap (λ (g : Gathering). static_of g.parts c.args.tx.now) (sym c.self.view_is) ∙ c.in-Err.ensures.refused)
