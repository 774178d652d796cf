use Rattle.std.proofs.Common.{Ok, arith}
use Rattle.sx_block.proofs.BlockLaws.{found_in, only_in}
use Rattle.sx_block.proofs.reading_in_parts.par_read_block.Goals as goal

pub returns-in-Ok-clause-found : goal.returns-in-Ok-clause-found
returns-in-Ok-clause-found g c =
    found_in c.args.payload.now (Ok c.in-Ok.block) (λ i. omega (arith, c.type_inv.payload i)) c.in-Ok.ensures

pub returns-in-Ok-clause-only : goal.returns-in-Ok-clause-only
returns-in-Ok-clause-only g c = λ block is e.
    only_in c.args.payload.now (Ok c.in-Ok.block) block c.in-Ok.ensures is e
