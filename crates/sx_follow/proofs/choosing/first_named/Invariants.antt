use Rattle.sx_follow.proofs.Chosen.{NameOthers}
use Rattle.sx_follow.proofs.choosing.first_named.Given as goal

abbrev pub invariant-loop-place : goal.invariant-loop-place
invariant-loop-place l = NameOthers l.digest l.blocks l.place-items l.place-index
