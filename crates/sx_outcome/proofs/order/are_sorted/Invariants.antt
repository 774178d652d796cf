use Rattle.std.specs.List.Sorted.{IsSortedWithin}
use Rattle.sx_ledger.specs.Body.{tx_before}
use Rattle.sx_outcome.proofs.order.are_sorted.Given as goal

abbrev pub invariant-loop-place : goal.invariant-loop-place
invariant-loop-place l = IsSortedWithin tx_before l.txs 0 l.place
