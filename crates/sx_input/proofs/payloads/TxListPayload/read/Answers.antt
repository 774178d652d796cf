use Rattle.sx_input.proofs.PayloadItems.{inside_where_wrong}
use Rattle.sx_input.proofs.payloads.TxListPayload.read.Goals as goal
use Rattle.sx_tx.specs.TransactionDecoding.{candidates_at}

pub returns-clause-within : goal.returns-clause-within
returns-clause-within g c =
    inside_where_wrong c.args.payload.now candidates_at c.par_read_candidates.result c.list_laws.ensures.payload_within
    c.par_read_candidates.ensures.exact
