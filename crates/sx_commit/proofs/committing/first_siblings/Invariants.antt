use Rattle.std.proofs.Common.{◌≡◌}
use Rattle.sx_commit.specs.Commitments.{listed, sibling_at}
use Rattle.sx_commit.proofs.committing.first_siblings.Given as goal

abbrev pub invariant-loop-k : goal.invariant-loop-k
invariant-loop-k l = l.siblings.items ≡ listed (sibling_at l.ledger l.fn.place) l.k
