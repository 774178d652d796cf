use Rattle.std.proofs.Common.{◌≡◌, None, drop}
use Rattle.sx_bytes.specs.Grammar.{in_order}
use Rattle.sx_ledger.specs.Body.{tx_before}
use Rattle.sx_block.proofs.reading_in_parts.are_in_order.Given as goal

abbrev pub invariant-loop-next : goal.invariant-loop-next
invariant-loop-next l =
    in_order tx_before None l.txs ≡ in_order tx_before l.before (drop l.next-index l.txs)
