use Rattle.std.proofs.Common.{◌≡◌, ◌≢◌, length}
use Rattle.sx_commit.specs.Commitments.{folded}
use Rattle.sx_commit.proofs.clashing.climb.Given as goal

abbrev pub invariant-loop-k : goal.invariant-loop-k
invariant-loop-k l =
    (l.own ≡ folded l.fn.place l.own_siblings l.own_leaf l.k)
    × (l.said ≡ folded l.fn.place l.said_siblings l.said_leaf l.k)
    × (l.own ≢ l.said)
    × (length l.own ≡ 32)
    × (length l.said ≡ 32)
