use Rattle.std.proofs.Common.{◌≡◌, ◌++◌, take}
use Rattle.std.specs.Prelude.{string_bytes}
use Rattle.std.specs.List.{flat_map}
use Rattle.sx_block.specs.Trades.{trades_from}
use Rattle.sx_text.specs.Blocks.{trade_line}
use Rattle.sx_text.proofs.blocks.put_trades.Given as goal

abbrev pub invariant-loop-place : goal.invariant-loop-place
invariant-loop-place l = string_bytes l.to ≡ string_bytes l.fn.to ++ flat_map trade_line (trades_from l.assets 0 (take l.place l.entries))
