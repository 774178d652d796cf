use Rattle.sx_follow.proofs.NextBlock.{AreRefused}
use Rattle.sx_follow.proofs.finding.find.Given as goal

abbrev pub invariant-loop-place : goal.invariant-loop-place
invariant-loop-place g l = AreRefused l.head l.blocks l.places l.place-index
