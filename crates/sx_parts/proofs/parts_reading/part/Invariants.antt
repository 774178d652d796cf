use Rattle.std.proofs.Common.{◌≡◌, ◌-◌}
use Rattle.sx_bytes.specs.Grammar.{many_at}
use Rattle.sx_bytes.proofs.ListReading.{with_front}
use Rattle.sx_tx.specs.TransactionDecoding.{tx_at}
use Rattle.sx_parts.proofs.parts_reading.part.Given as goal

-- those decoded so far and those still to be decoded are all of them
abbrev pub invariant-loop : goal.invariant-loop
invariant-loop l = record {
  same : l.from.bytes ≡ l.payload;
  all : with_front l.txs.items (many_at tx_at (l.count - l.counter) l.from)
      ≡ many_at tx_at l.count (record { bytes = l.payload; place = l.place });
}
