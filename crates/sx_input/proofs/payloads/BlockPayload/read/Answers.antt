use Rattle.sx_block.specs.Decoding.{block_at}
use Rattle.sx_input.proofs.PayloadItems.{inside_where_wrong}
use Rattle.sx_input.proofs.payloads.BlockPayload.read.Goals as goal

pub returns-clause-within : goal.returns-clause-within
returns-clause-within g c =
    inside_where_wrong c.args.payload.now block_at c.par_read_block.result c.block_laws.ensures.within
    c.par_read_block.ensures.exact
