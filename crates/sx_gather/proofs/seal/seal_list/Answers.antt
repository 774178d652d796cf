use Rattle.std.proofs.Common.{◌≡◌, List, sym, subst, ◌∙◌, arith}
use Rattle.std.specs.List.Sorted.{IsPermutation}
use Rattle.std.proofs.lemmas.List.{with_items_is}
use Rattle.sx_outcome.specs.Gathering.{IsGathered, accepted, decisions}
use Rattle.sx_tx.specs.declared.tx.Tx.{Tx}
use Rattle.sx_gather.proofs.seal.seal_list.Goals as goal

pub returns-clause-gathered : goal.returns-clause-gathered
returns-clause-gathered c parts once =
    let txs = c.accepted-txs.result in
    let body = c.sort_txs.new.txs in
    let lent : c.deref_mut.result.now ≡ accepted (decisions c.args.candidates c.args.outcomes) =
    c.deref_mut.ensures.value ∙ c.accepted-txs.ensures in
    subst (IsGathered parts c.args.candidates c.args.outcomes)
    (sym (c.of.ensures ∙ with_items_is txs body (omega (arith, c.sort_txs.auto.txs, c.deref_mut.ensures.len))))
    (once body (subst (λ (list : List Tx). IsPermutation list body) lent c.sort_txs.ensures.moves) c.sort_txs.ensures.sorted)
