use Rattle.std.proofs.Common.{drop}
use Rattle.sx_follow.proofs.InTurn.{IsUpTo}
use Rattle.sx_follow.proofs.in_turn.apply_in_turn.Given as goal

abbrev pub invariant-loop-index : goal.invariant-loop-index
invariant-loop-index l = IsUpTo l.head l.blocks l.index l.left (drop l.index l.places)
