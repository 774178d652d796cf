use Rattle.std.proofs.Common.{◌≡◌, ◌++◌, take}
use Rattle.std.specs.Prelude.{string_bytes}
use Rattle.sx_text.specs.Blocks.{market_line}
use Rattle.sx_text.specs.Pieces.{indexed}
use Rattle.sx_text.proofs.blocks.put_assets.Given as goal

abbrev pub invariant-loop-asset : goal.invariant-loop-asset
invariant-loop-asset l = string_bytes l.to ≡ string_bytes l.fn.to ++ indexed (market_line l.potentials l.rounding) (take l.asset-counter l.prices)
