use Rattle.std.proofs.lemmas.Result.{err_from_is_err_and}
use Rattle.sx_bytes.specs.declared.fault.ReadError.TheVariants as read_error
use Rattle.sx_bytes.specs.Grammar.{many_at}
use Rattle.sx_bytes.proofs.ListReading.{goes_on, ends, is_done}
use Rattle.sx_tx.specs.TransactionDecoding.{tx_at}
use Rattle.sx_tx.proofs.reading.txs.Goals as goal

pub returns-in_err-account : goal.returns-in_err-account
returns-in_err-account c =
    let p = err_from_is_err_and c.from_residual-in_err-account.result c.from_residual-in_err-account.ensures.1 in
    rw (p.1, p.2) (ends tx_at (read_error.Form c.in_err-account.field-0.0) c.loop.txs.items c.args.count
    c.loop.counter c.loop.from (many_at tx_at c.args.count c.args.from.now) c.loop-test.true
    c.in_err-account.ensures.exact c.loop.invariant)

pub loop-preserved : goal.loop-preserved
loop-preserved c =
    rw c.in_ok-push.ensures.items (goes_on tx_at c.loop.txs.items c.args.count c.loop.counter c.loop.from
    c.in_ok-account.field-0 c.decode_tx.new.from (many_at tx_at c.args.count c.args.from.now) c.loop-test.true
    c.in_ok-account.ensures.exact c.loop.invariant)

pub returns : goal.returns
returns c = rw c.of.ensures (is_done tx_at c.loop.txs.items c.args.count c.loop.counter c.loop.from
    (many_at tx_at c.args.count c.args.from.now) c.loop-test.false c.loop.invariant)
