use Rattle.sx_bytes.proofs.Written.{flat_map-taken}
use Rattle.sx_tx.specs.Transactions.{tx_bytes}
use Rattle.sx_digests.proofs.pieces.TxEncoderEncoderTx.write.Goals as goal

pub loop-tx-preserved : goal.loop-tx-preserved
loop-tx-preserved c =
    flat_map-taken tx_bytes c.args.entries.now c.loop-tx.tx-index c.tx-item.result c.args.to.now c.loop-tx.to
    c.write_tx.new.to c.loop-tx-test.true c.tx-item.is c.loop-tx.invariant c.in_ok-write_tx.ensures.ok
