use Rattle.std.proofs.Common.{◌+◌}
use Rattle.sx_follow.proofs.Chosen.{GoesOn}
use Rattle.sx_follow.proofs.choosing.choose.Given as goal

abbrev pub invariant-loop-above : goal.invariant-loop-above
invariant-loop-above l = GoesOn l.height l.digest l.blocks l.places.items (l.height + l.above) l.named
