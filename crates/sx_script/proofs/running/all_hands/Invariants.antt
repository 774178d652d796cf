use Rattle.std.proofs.Common.{◌≡◌, map}
use Rattle.std.specs.List.{range_with_len}
use Rattle.sx_script.specs.Actors.{starting}
use Rattle.sx_script.proofs.running.all_hands.Given as goal

abbrev pub invariant-loop-k : goal.invariant-loop-k
invariant-loop-k l = l.hands.items ≡ map (starting l.candidates l.n) (range_with_len 0 l.k)
