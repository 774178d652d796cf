use Rattle.std.proofs.Common.{◌≡◌, ◌-◌, None}
use Rattle.sx_bytes.specs.declared.fault.Form.TheVariants as form
use Rattle.sx_bytes.specs.Grammar.{ordered_at}
use Rattle.sx_bytes.proofs.ListReading.{with_front}
use Rattle.sx_ledger.specs.Body.{tx_before}
use Rattle.sx_tx.specs.TransactionDecoding.{tx_at}
use Rattle.sx_block.proofs.reading.read_txs.Given as goal

abbrev pub invariant-loop : goal.invariant-loop
invariant-loop l =
    with_front l.txs.items (ordered_at tx_at tx_before form.Order (l.count - l.counter) l.before l.from)
    ≡ ordered_at tx_at tx_before form.Order l.count None l.fn.from
