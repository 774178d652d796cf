use Rattle.std.proofs.Common.{List, subst}
use Rattle.sx_outcome.specs.Gathering.{IsGathered}
use Rattle.sx_tx.specs.declared.tx.Tx.{Tx}
use Rattle.sx_gather.proofs.gather.Gather.par_seal.Goals as goal

pub returns-clause-gathered : goal.returns-clause-gathered
returns-clause-gathered g c =
    let parts = c.args.self.parts in
    let sealed = c.par_seal_list.result in
    let closed = c.in_ok-candidates.ensures in
    subst (λ (list : List Tx). IsGathered parts list sealed.outcomes sealed.txs) closed.candidates
    (c.par_seal_list.ensures.gathered parts (rw closed.candidates closed.body))
