use Rattle.std.proofs.Common.{◌≡◌, ◌≤◌, true, false, length}
use Rattle.std.specs.List.{AllWithin}
use Rattle.std.specs.List.Sorted.{IsPermutation}
use Rattle.sx_ledger.specs.Body.{tx_before}
use Rattle.sx_outcome.proofs.order.part.Given as goal

abbrev pub invariant-loop-place : goal.invariant-loop-place
invariant-loop-place l =
    IsPermutation l.initial.txs l.txs × (length l.txs ≡ length l.initial.txs) × (l.end ≤ l.place)
    × AllWithin (λ tx. tx_before tx l.by ≡ true) l.txs 0 l.end
    × AllWithin (λ tx. tx_before tx l.by ≡ false) l.txs l.end l.place
