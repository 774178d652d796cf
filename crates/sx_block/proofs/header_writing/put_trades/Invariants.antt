use Rattle.std.proofs.Common.{◌≡◌, ◌++◌, take}
use Rattle.std.specs.List.{flat_map}
use Rattle.sx_block.specs.Encoding.{trade_bytes}
use Rattle.sx_block.specs.Trades.{trades_from}
use Rattle.sx_block.proofs.header_writing.put_trades.Given as goal

abbrev pub invariant-loop-place : goal.invariant-loop-place
invariant-loop-place l = l.to ≡ l.fn.to ++ flat_map trade_bytes (trades_from l.assets 0 (take l.place l.entries))
