use Rattle.sx_input.proofs.PayloadItems.{inside_where_wrong}
use Rattle.sx_input.proofs.payloads.OutcomesPayload.read.Goals as goal
use Rattle.sx_outcome.specs.OutcomeDecoding.{outcomes_at}

pub returns-clause-within : goal.returns-clause-within
returns-clause-within g c =
    inside_where_wrong c.args.payload.now outcomes_at c.read_outcomes.result
    c.outcome_list_laws.ensures.payload_within c.read_outcomes.ensures.exact
