use Rattle.std.proofs.Common.{drop}
use Rattle.sx_follow.proofs.AheadSteps.{IsUpTo}
use Rattle.sx_follow.proofs.ahead.applying.apply_chosen.Given as goal

abbrev pub invariant-loop-index : goal.invariant-loop-index
invariant-loop-index g l = IsUpTo l.ledger l.digest l.blocks l.claims.items l.after l.named (drop l.index l.places)
