use Rattle.std.proofs.Common.{◌≡◌, ◌-◌, All}
use Rattle.sx_block.specs.Decoding.{trade_at, trades_at}
use Rattle.sx_block.specs.Trades.{IsTrade, trade_before}
use Rattle.sx_bytes.specs.declared.fault.Form.TheVariants as form
use Rattle.sx_bytes.specs.Grammar.{ordered_at}
use Rattle.sx_bytes.proofs.ListReading.{with_front}
use Rattle.sx_block.proofs.trade_reading.read_trades.Given as goal

abbrev pub invariant-loop : goal.invariant-loop
invariant-loop l =
    All (IsTrade l.assets) l.trades.items
    × (with_front l.trades.items (ordered_at (trade_at l.assets) trade_before form.TradeOrder (l.count - l.counter)
    l.before l.from)
    ≡ trades_at l.assets l.count l.fn.from)
