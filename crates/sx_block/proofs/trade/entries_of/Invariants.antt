use Rattle.std.proofs.Common.{◌≡◌, ◌≤◌, ◌*◌, length, drop}
use Rattle.sx_block.specs.Trades.{entries_from}
use Rattle.sx_block.proofs.trade.entries_of.Given as goal

abbrev pub invariant-loop-left : goal.invariant-loop-left
invariant-loop-left l = (l.left ≤ length l.trades) ×
    (l.entries.items ≡ entries_from l.assets (drop l.left l.trades) 0 (l.assets * l.assets))

abbrev pub decreases-loop-left : goal.decreases-loop-left
decreases-loop-left l = l.left
