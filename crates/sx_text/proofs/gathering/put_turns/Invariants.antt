use Rattle.std.proofs.Common.{◌≡◌, ◌++◌, take}
use Rattle.std.specs.Prelude.{string_bytes}
use Rattle.std.specs.List.{flat_map}
use Rattle.sx_text.specs.Gathering.{turn_line}
use Rattle.sx_text.proofs.gathering.put_turns.Given as goal

abbrev pub invariant-loop-actor : goal.invariant-loop-actor
invariant-loop-actor l = string_bytes l.to ≡ string_bytes l.fn.to ++ flat_map turn_line (take l.actor-index l.turns)
