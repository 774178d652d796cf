use Rattle.std.proofs.Common.{None, rules}
use Rattle.std.proofs.lemmas.Result.{err_from_is_err_and}
use Rattle.sx_bytes.specs.declared.fault.Form.TheVariants as form
use Rattle.sx_bytes.specs.declared.fault.ReadError.TheVariants as read_error
use Rattle.sx_bytes.specs.Grammar.{ordered_at}
use Rattle.sx_bytes.proofs.Ordered.{ordered_goes_on, ordered_ends, ordered_breaks, ordered_done}
use Rattle.sx_ledger.specs.Body.{tx_before}
use Rattle.sx_tx.specs.TransactionDecoding.{tx_at}
use Rattle.sx_block.proofs.reading.read_txs.Goals as goal

pub returns-in_err-next : goal.returns-in_err-next
returns-in_err-next c =
    let p = err_from_is_err_and c.from_residual-in_err-next.result c.from_residual-in_err-next.ensures.1 in
    rw (p.1, p.2) (ordered_ends tx_at tx_before form.Order (read_error.Form c.in_err-next.field-0.0)
    c.loop.txs.items c.args.count c.loop.counter c.loop.before c.loop.from
    (ordered_at tx_at tx_before form.Order c.args.count None c.args.from.now) c.loop-test.true
    c.in_err-next.ensures.0 c.loop.invariant)

pub returns-then-not-follows : goal.returns-then-not-follows
returns-then-not-follows c =
    rw (c.fault_at.ensures, c.place-at.ensures.place)
    (ordered_breaks tx_at tx_before form.Order c.loop.txs.items c.args.count c.loop.counter c.loop.before
    c.loop.from c.in_ok-next.next c.read_tx.new.from
    (ordered_at tx_at tx_before form.Order c.args.count None c.args.from.now) c.loop-test.true c.in_ok-next.ensures
    (search rules) c.loop.invariant)

pub loop-preserved : goal.loop-preserved
loop-preserved c =
    rw c.in_ok-push.ensures.items (ordered_goes_on tx_at tx_before form.Order c.loop.txs.items c.args.count
    c.loop.counter c.loop.before c.loop.from c.in_ok-next.next c.read_tx.new.from
    (ordered_at tx_at tx_before form.Order c.args.count None c.args.from.now) c.loop-test.true c.in_ok-next.ensures
    (search rules) c.loop.invariant)

pub returns : goal.returns
returns c =
    rw c.of.ensures (ordered_done tx_at tx_before form.Order c.loop.txs.items c.args.count c.loop.counter
    c.loop.before c.loop.from
    (ordered_at tx_at tx_before form.Order c.args.count None c.args.from.now) c.loop-test.false c.loop.invariant)
