use Rattle.std.proofs.Common.{◌≡◌, ◌+◌, ℕ, List, [], ◌∷◌, ◌++◌, append-nil, append_assoc, ap, sym, take, ◌∙◌}
use Rattle.std.specs.List.{flat_map}
use Rattle.std.proofs.lemmas.Grind.{flat_map-append}
use Rattle.std.proofs.lemmas.List.{take_more}
use Rattle.sx_run.proofs.candidates_writing.put_all.Goals as goal
use Rattle.sx_tx.specs.declared.tx.Tx.{Tx}
use Rattle.sx_tx.specs.Transactions.{tx_bytes}

pub loop-tx-preserved : goal.loop-tx-preserved
loop-tx-preserved c =
    let txs = c.args.txs.now in
    let at = c.loop-tx.tx-index in
    let tx = c.tx-item.result in
    let old = c.args.told.now in
    let before = flat_map tx_bytes (take at txs) in
    let more : flat_map tx_bytes (take (at + 1) txs) ≡ before ++ tx_bytes tx =
    ap (flat_map tx_bytes) (take_more txs at tx c.loop-tx-test.true
    ∙ ap (λ (t : Tx). take at txs ++ t ∷ []) (sym c.tx-item.is))
    ∙ flat_map-append tx_bytes (take at txs) (tx ∷ [])
    ∙ ap (λ (list : List ℕ). before ++ list) (append-nil (tx_bytes tx)) in
    c.in_ok-write_tx.ensures.ok
    ∙ ap (λ (list : List ℕ). list ++ tx_bytes tx) c.loop-tx.invariant
    ∙ append_assoc old before (tx_bytes tx)
    ∙ ap (λ (list : List ℕ). old ++ list) (sym more)
