use Rattle.std.proofs.Common.{◌+◌, ◌≤◌, List, length, take, subst, sym, arith}
use Rattle.std.specs.List.{All}
use Rattle.sx_follow.specs.Ahead.{IsRight}
use Rattle.sx_follow.specs.declared.ahead.batch.Claim.{Claim}
use Rattle.sx_follow.proofs.RightOnes.{both}
use Rattle.sx_follow.proofs.ahead.hashing.+fn-right_of-fork+arg4+right_of.Goals as goal

pub returns-clause-right : goal.returns-clause-right
returns-clause-right g t c =
    let front = c.split_at.result.0.now in
    let back = c.split_at.result.1.now in
    let one = c.fork-one.result.0 in
    let other = c.fork-one.result.1 in
    let first : (one ≤ length front) × All IsRight (take one front) = c.fork-one.ensures.first in
    let second : (other ≤ length back) × All IsRight (take other back) = c.fork-one.ensures.second in
    subst (λ (claims : List Claim). All IsRight (take (length front + other) claims)) (sym c.split_at.ensures.by_index.0)
    (both front back one other (omega (arith, first.0, c.if-one-front.false)) second.0 first.1 second.1)
