use Rattle.std.proofs.Common.{◌≡◌, ◌++◌, take}
use Rattle.std.specs.List.{flat_map}
use Rattle.sx_tx.specs.Transactions.{tx_bytes}
use Rattle.sx_digests.proofs.pieces.TxEncoderEncoderTx.write.Given as goal

abbrev pub invariant-loop-tx : goal.invariant-loop-tx
invariant-loop-tx l = l.to ≡ l.fn.to ++ flat_map tx_bytes (take l.tx-index l.entries)
