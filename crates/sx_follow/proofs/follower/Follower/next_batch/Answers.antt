use Rattle.std.proofs.Common.{arith}
use Rattle.sx_follow.proofs.RightOnes.{all_right}
use Rattle.sx_follow.proofs.follower.Follower.next_batch.Goals as goal

pub take_batch-requires-clause-right : goal.take_batch-requires-clause-right
take_batch-requires-clause-right g c =
    all_right c.in_ok-right.field-0.right c.args.batch.claims.items
    (omega (arith, c.in_ok-right.right-is, c.if-right-len.true)) c.in_ok-right.ensures.right
