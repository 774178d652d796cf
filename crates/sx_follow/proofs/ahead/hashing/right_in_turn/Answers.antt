use Rattle.std.proofs.Common.{length, refl, subst, arith}
use Rattle.std.proofs.lemmas.List.{get_or_read_under}
use Rattle.sx_follow.specs.Ahead.{IsRight}
use Rattle.sx_follow.proofs.RightOnes.{one_more}
use Rattle.sx_follow.proofs.ahead.hashing.right_in_turn.Goals as goal

pub loop-count-preserved : goal.loop-count-preserved
loop-count-preserved c =
    let batch = c.args.claims.now in
    let count = c.loop-count.count in
    let next = c.index-claims-count.result in (
      omega (arith, c.loop-count-test.true),
      one_more count batch (omega (arith, c.loop-count-test.true)) c.loop-count.invariant.1
          (λ d. subst IsRight
          (get_or_read_under batch count (length batch) next d c.index-claims-count.is c.loop-count-test.true refl)
          (c.is_right.ensures c.if-not-is_right.false)),
    )
