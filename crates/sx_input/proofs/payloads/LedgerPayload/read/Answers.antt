use Rattle.sx_input.proofs.PayloadItems.{inside_where_wrong}
use Rattle.sx_input.proofs.payloads.LedgerPayload.read.Goals as goal
use Rattle.sx_state.specs.Decoding.{state_at}

pub returns-clause-within : goal.returns-clause-within
returns-clause-within g c =
    inside_where_wrong c.args.payload.now state_at c.par_read_state.result c.state_laws.ensures.within
    c.par_read_state.ensures.exact
