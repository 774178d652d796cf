use Rattle.std.proofs.Common.{◌≡◌, take}
use Rattle.sx_text.specs.Demonstration.{accepted}
use Rattle.sx_text.proofs.demonstration.accepted.Given as goal

abbrev pub invariant-loop-outcome : goal.invariant-loop-outcome
invariant-loop-outcome l = l.count ≡ accepted (take l.outcome-index l.outcomes)
