use Rattle.sx_input.proofs.PayloadItems.{inside_where_wrong}
use Rattle.sx_input.proofs.payloads.ScriptPayload.read.Goals as goal
use Rattle.sx_outcome.specs.ScriptDecoding.{script_at}

pub returns-clause-within : goal.returns-clause-within
returns-clause-within g c =
    inside_where_wrong c.args.payload.now script_at c.read_script.result c.script_laws.ensures.payload_within
    c.read_script.ensures.exact
