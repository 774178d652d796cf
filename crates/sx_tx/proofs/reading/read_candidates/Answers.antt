use Rattle.std.proofs.Common.{arith}
use Rattle.sx_tx.proofs.ListLaws.{found_in, only_in}
use Rattle.sx_tx.proofs.reading.read_candidates.Goals as goal

pub returns-clause-found : goal.returns-clause-found
returns-clause-found c = found_in c.args.payload.now c.whole.result (λ i. omega (arith, c.type_inv.payload i))
    c.whole.ensures

pub returns-clause-only : goal.returns-clause-only
returns-clause-only c = λ txs is e. only_in c.args.payload.now c.whole.result txs c.whole.ensures is e
