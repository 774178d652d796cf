use Rattle.sx_follow.proofs.InTurn.{one_more}
use Rattle.sx_follow.proofs.in_turn.apply_in_turn.Goals as goal
use Rattle.sx_follow.specs.Leaves.{Leaves}

pub loop-index-preserved : goal.loop-index-preserved
loop-index-preserved c =
    let before = c.loop-index.left in
    let block = c.index-blocks-places.result in
    let leaves : Leaves before.ledger block c.in-Some.next = rw c.in-Some.is at c.in_ok-next.ensures.valid in
    one_more c.args.head.now c.args.blocks.now c.args.places.now c.loop-index.index before c.in-Some.next block
    c.loop-index-test.true c.loop-index.invariant c.index-blocks-places.is leaves
