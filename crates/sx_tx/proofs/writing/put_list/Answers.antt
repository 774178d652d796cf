use Rattle.std.proofs.Common.{◌++◌, length}
use Rattle.byteorder.specs.Endian.{big_bytes}
use Rattle.sx_bytes.proofs.Written.{flat_map-taken}
use Rattle.sx_tx.specs.Transactions.{tx_bytes}
use Rattle.sx_tx.proofs.writing.put_list.Goals as goal

pub loop-tx-preserved : goal.loop-tx-preserved
loop-tx-preserved c =
    flat_map-taken tx_bytes c.args.txs.now c.loop-tx.tx-index c.tx-item.result
    (c.args.to.now ++ big_bytes 4 (length c.args.txs.now)) c.loop-tx.to c.put_tx.new.to c.loop-tx-test.true
    c.tx-item.is c.loop-tx.invariant c.in_ok-put_tx.ensures.ok
