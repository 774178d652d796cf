use Rattle.std.proofs.Common.{◌≡◌, ◌++◌, length, take}
use Rattle.std.specs.List.{flat_map}
use Rattle.byteorder.specs.Endian.{big_bytes}
use Rattle.sx_tx.specs.Transactions.{tx_bytes}
use Rattle.sx_tx.proofs.writing.put_list.Given as goal

abbrev pub invariant-loop-tx : goal.invariant-loop-tx
invariant-loop-tx l = l.to ≡ (l.fn.to ++ big_bytes 4 (length l.txs)) ++ flat_map tx_bytes (take l.tx-index l.txs)
