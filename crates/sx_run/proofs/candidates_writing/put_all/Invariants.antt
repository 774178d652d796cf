use Rattle.std.proofs.Common.{◌≡◌, ◌++◌, take}
use Rattle.std.specs.List.{flat_map}
use Rattle.sx_run.proofs.candidates_writing.put_all.Given as goal
use Rattle.sx_tx.specs.Transactions.{tx_bytes}

abbrev pub invariant-loop-tx : goal.invariant-loop-tx
invariant-loop-tx l = l.told ≡ l.fn.told ++ flat_map tx_bytes (take l.tx-index l.txs)
