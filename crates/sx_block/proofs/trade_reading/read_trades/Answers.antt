use Rattle.std.proofs.Common.{rules}
use Rattle.std.proofs.lemmas.List.Elements.{All-push}
use Rattle.std.proofs.lemmas.Result.{err_from_is_err_and}
use Rattle.sx_block.specs.Decoding.{trade_at, trades_at}
use Rattle.sx_block.specs.Trades.{IsTrade, trade_before}
use Rattle.sx_bytes.specs.declared.fault.Form.TheVariants as form
use Rattle.sx_bytes.specs.declared.fault.ReadError.TheVariants as read_error
use Rattle.sx_bytes.proofs.Ordered.{ordered_goes_on, ordered_ends, ordered_breaks, ordered_done}
use Rattle.sx_block.proofs.trade_reading.read_trades.Goals as goal

pub returns-in_err-next-clause-exact : goal.returns-in_err-next-clause-exact
returns-in_err-next-clause-exact c =
    let p = err_from_is_err_and c.from_residual-in_err-next.result c.from_residual-in_err-next.ensures.1 in
    rw (p.1, p.2) (ordered_ends (trade_at c.args.assets) trade_before form.TradeOrder
    (read_error.Form c.in_err-next.field-0.0) c.loop.trades.items c.args.count c.loop.counter c.loop.before
    c.loop.from
    (trades_at c.args.assets c.args.count c.args.from.now) c.loop-test.true c.in_err-next.ensures.exact
    c.loop.invariant.1)

pub returns-then-not-follows-clause-exact : goal.returns-then-not-follows-clause-exact
returns-then-not-follows-clause-exact c =
    rw (c.fault_at.ensures, c.place-at.ensures.place)
    (ordered_breaks (trade_at c.args.assets) trade_before form.TradeOrder c.loop.trades.items c.args.count
    c.loop.counter c.loop.before c.loop.from c.in_ok-next.next c.read_trade.new.from
    (trades_at c.args.assets c.args.count c.args.from.now) c.loop-test.true c.in_ok-next.ensures.exact
    (search rules) c.loop.invariant.1)

pub loop-preserved : goal.loop-preserved
loop-preserved c = (
  rw c.in_ok-push.ensures.items (All-push (IsTrade c.args.assets) c.loop.trades.items c.in_ok-next.next
      c.loop.invariant.0 c.in_ok-next.ensures.trade),
  rw c.in_ok-push.ensures.items (ordered_goes_on (trade_at c.args.assets) trade_before form.TradeOrder
      c.loop.trades.items c.args.count c.loop.counter c.loop.before c.loop.from c.in_ok-next.next c.read_trade.new.from
      (trades_at c.args.assets c.args.count c.args.from.now) c.loop-test.true c.in_ok-next.ensures.exact
      (search rules) c.loop.invariant.1),
)

pub returns-clause-exact : goal.returns-clause-exact
returns-clause-exact c =
    ordered_done (trade_at c.args.assets) trade_before form.TradeOrder c.loop.trades.items c.args.count
    c.loop.counter c.loop.before c.loop.from
    (trades_at c.args.assets c.args.count c.args.from.now) c.loop-test.false c.loop.invariant.1
