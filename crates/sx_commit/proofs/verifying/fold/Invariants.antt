use Rattle.std.proofs.Common.{◌≡◌}
use Rattle.sx_commit.specs.Commitments.{folded}
use Rattle.sx_commit.proofs.verifying.fold.Given as goal

abbrev pub invariant-loop-k : goal.invariant-loop-k
invariant-loop-k l = l.digest ≡ folded l.fn.place l.siblings l.leaf l.k
