use Rattle.std.proofs.Common.{arith}
use Rattle.sx_outcome.proofs.OutcomeListLaws.{found_in, only_in}
use Rattle.sx_outcome.proofs.outcome_reading.read_outcomes.Goals as goal

pub returns-clause-found : goal.returns-clause-found
returns-clause-found c =
    found_in c.args.payload.now c.whole.result (λ i. omega (arith, c.type_inv.payload i)) c.whole.ensures

pub returns-clause-only : goal.returns-clause-only
returns-clause-only c = λ outcomes is e. only_in c.args.payload.now c.whole.result outcomes c.whole.ensures is e
