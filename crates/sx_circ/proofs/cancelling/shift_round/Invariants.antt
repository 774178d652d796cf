use Rattle.sx_circ.proofs.Rounds.{IsRound}
use Rattle.sx_circ.proofs.cancelling.shift_round.Given as goal

abbrev pub invariant-loop-place : goal.invariant-loop-place
invariant-loop-place l = IsRound l.bounds l.initial.values l.values l.cycle l.amount l.place
