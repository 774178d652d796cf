use Rattle.sx_block.proofs.Rules.{past_parent}
use Rattle.sx_check.proofs.judging.judge_applicable.Goals as goal

pub check_header-requires-clause-height : goal.check_header-requires-clause-height
check_header-requires-clause-height g c =
    past_parent c.args.ledger.now c.args.block.now c.in_ok-check_height.ensures.next
