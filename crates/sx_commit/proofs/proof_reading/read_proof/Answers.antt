use Rattle.std.proofs.Common.{arith}
use Rattle.sx_commit.proofs.Payload.{found_in, only_in}
use Rattle.sx_commit.proofs.proof_reading.read_proof.Goals as goal

pub returns-clause-found : goal.returns-clause-found
returns-clause-found c = found_in c.args.payload.now c.read_whole.result (λ i. omega (arith, c.type_inv.payload i))
    c.read_whole.ensures

pub returns-clause-only : goal.returns-clause-only
returns-clause-only c = λ claim is e. only_in c.args.payload.now c.read_whole.result claim c.read_whole.ensures is e
