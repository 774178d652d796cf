use Rattle.std.proofs.Common.{◌≡◌, ◌++◌, take}
use Rattle.std.specs.Prelude.{string_bytes}
use Rattle.sx_text.specs.Gathering.{outcome_line}
use Rattle.sx_text.specs.Pieces.{indexed}
use Rattle.sx_text.proofs.gathering.put_outcome_lines.Given as goal

abbrev pub invariant-loop-index : goal.invariant-loop-index
invariant-loop-index l = string_bytes l.to ≡ string_bytes l.fn.to ++ indexed outcome_line (take l.index l.outcomes)
