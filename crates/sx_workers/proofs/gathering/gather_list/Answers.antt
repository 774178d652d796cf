use Rattle.std.proofs.Common.{List, subst, ◌∙◌}
use Rattle.sx_gather.specs.Seal.{IsBodyOnceSorted}
use Rattle.sx_outcome.specs.Gathering.{accepted, decisions}
use Rattle.sx_ledger.specs.declared.parts.Parts.{Parts}
use Rattle.sx_tx.specs.declared.tx.Tx.{Tx}
use Rattle.sx_workers.proofs.gathering.gather_list.Goals as goal
use Rattle.sx_workers.proofs.gathering.gather_list.Goals.{else-workers-eq1, then-workers-eq1}

pub returns-clause-gathered : goal.returns-clause-gathered
returns-clause-gathered g c =
    let told = c.outcomes-outcomes.result in
    let made = c.in_ok-gather in
    let here = subst (λ (p : Parts). IsBodyOnceSorted p made.gather.candidates told
    (accepted (decisions made.gather.candidates told))) made.ensures.parts c.outcomes-outcomes.ensures.body in
    let body = subst (λ (txs : List Tx). IsBodyOnceSorted c.args.ledger.now txs told (accepted (decisions txs told)))
    (made.ensures.candidates ∙ c.items-items.ensures) here in
    elim c.if-workers-eq1.branch [
      | then-workers-eq1 w ↦ rw w.sealed-is (w.seal_list-sealed.ensures.gathered c.args.ledger.now body)
      | else-workers-eq1 w ↦ rw w.sealed-is (w.par_seal_list-sealed.ensures.gathered c.args.ledger.now body)
    ]
