use Rattle.std.proofs.Common.{◌≡◌, ◌-◌, length, take}
use Rattle.sx_bytes.specs.Grammar.{many_at}
use Rattle.sx_bytes.proofs.ListReading.{with_front}
use Rattle.sx_tx.specs.TransactionDecoding.{tx_at}
use Rattle.sx_parts.proofs.reading_in_parts.fill.Given as goal

-- those decoded so far and those still to be decoded are all of them
abbrev pub invariant-loop-slot : goal.invariant-loop-slot
invariant-loop-slot l = record {
  one_each : length l.txs ≡ length l.fn.txs;
  same : l.from.bytes ≡ l.payload;
  all : with_front (take l.slot l.txs) (many_at tx_at (length l.fn.txs - l.slot) l.from)
      ≡ many_at tx_at (length l.fn.txs) (record { bytes = l.payload; place = l.place });
}
