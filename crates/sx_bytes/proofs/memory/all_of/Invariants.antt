use Rattle.std.proofs.Common.{◌≡◌, Ok, map}
use Rattle.sx_bytes.proofs.memory.all_of.Given as goal

abbrev pub invariant-loop-result : goal.invariant-loop-result
invariant-loop-result g l = map Ok l.found.items ≡ l.yielded
