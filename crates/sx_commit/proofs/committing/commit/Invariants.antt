use Rattle.sx_commit.specs.Levels.{IsLevel}
use Rattle.sx_commit.proofs.committing.commit.Given as goal

abbrev pub invariant-loop-k : goal.invariant-loop-k
invariant-loop-k g l = IsLevel l.ledger l.k l.level
