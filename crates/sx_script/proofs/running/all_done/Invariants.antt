use Rattle.std.proofs.Common.{◌≡◌, take}
use Rattle.std.specs.List.{flat_map}
use Rattle.sx_script.proofs.running.all_done.Given as goal

abbrev pub invariant-loop-hand : goal.invariant-loop-hand
invariant-loop-hand l = l.outcomes.items ≡ flat_map (λ actor. actor.done) (take l.hand-index l.hands)
