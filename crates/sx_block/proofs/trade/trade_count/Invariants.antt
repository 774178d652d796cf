use Rattle.std.proofs.Common.{◌≡◌, ◌≤◌, length, take}
use Rattle.sx_block.specs.Trades.{trades_from}
use Rattle.sx_block.proofs.trade.trade_count.Given as goal

abbrev pub invariant-loop-value : goal.invariant-loop-value
invariant-loop-value l = (l.count ≤ l.value-index) ×
    (l.count ≡ length (trades_from l.assets 0 (take l.value-index l.entries)))
