use Rattle.std.proofs.Common.{◌≡◌, ◌++◌, take}
use Rattle.std.specs.Prelude.{string_bytes}
use Rattle.sx_text.specs.Pieces.{spaced}
use Rattle.sx_text.proofs.lines.put_spaced.Given as goal

abbrev pub invariant-loop-number : goal.invariant-loop-number
invariant-loop-number l = string_bytes l.to ≡ string_bytes l.fn.to ++ spaced (take l.number-index l.numbers)
