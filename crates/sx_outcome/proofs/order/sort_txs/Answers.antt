use Rattle.std.proofs.Common.{rules}
use Rattle.std.proofs.lemmas.List.Sorted.{answers_always}
use Rattle.sx_ledger.specs.Body.{tx_before}
use Rattle.sx_outcome.proofs.TxOrder.{tx_order}
use Rattle.sx_outcome.proofs.order.sort_txs.Goals as goal

pub returns-clause-sorted : goal.returns-clause-sorted
returns-clause-sorted c =
    c.sort_unstable_by.ensures.sorted tx_before tx_order (answers_always _ _ _ (λ f a r g called. search rules))
