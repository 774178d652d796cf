use Rattle.std.proofs.Common.{◌≡◌, ◌+◌, [], ◌∷◌, ◌++◌, take, sym, ap, ◌∙◌}
use Rattle.std.proofs.lemmas.List.{take_more}
use Rattle.sx_filter.specs.Cancellations.{cancellations}
use Rattle.sx_filter.proofs.NamedAgain.{cancellations_more, created_more}
use Rattle.sx_filter.proofs.sift.named.names_of.Goals as goal
use Rattle.sx_ledger.specs.Body.{created}
use Rattle.sx_tx.specs.declared.tx.Tx.{Tx}

pub loop-tx-preserved : goal.loop-tx-preserved
loop-tx-preserved c =
    let txs = c.args.txs.now in
    let at = c.loop-tx.tx-index in
    let tx = c.tx-item.result in
    let more : take at txs ++ tx ∷ [] ≡ take (at + 1) txs =
    ap (λ (t : Tx). take at txs ++ t ∷ []) c.tx-item.is ∙ sym (take_more txs at tx c.loop-tx-test.true) in
    record {
      offers = c.in_ok-note.ensures.offers ∙ ap (λ list. list ++ cancellations (tx ∷ [])) c.loop-tx.invariant.offers
          ∙ sym (cancellations_more (take at txs) tx) ∙ ap cancellations more;
      ids = c.in_ok-note.ensures.ids ∙ ap (λ list. list ++ created (tx ∷ [])) c.loop-tx.invariant.ids
          ∙ sym (created_more (take at txs) tx) ∙ ap created more;
    }
