use Rattle.std.proofs.Common.{arith}
use Rattle.sx_block.proofs.BlockLaws.{found_in, only_in}
use Rattle.sx_block.proofs.reading.read_block.Goals as goal

pub returns-clause-found : goal.returns-clause-found
returns-clause-found c = found_in c.args.payload.now c.read_whole.result (λ i. omega (arith, c.type_inv.payload i))
    c.read_whole.ensures

pub returns-clause-only : goal.returns-clause-only
returns-clause-only c = λ block is e. only_in c.args.payload.now c.read_whole.result block c.read_whole.ensures is e
