use Rattle.std.proofs.Common.{arith}
use Rattle.std.proofs.lemmas.Result.{IfErr-weaker, IfOk-weaker}
use Rattle.sx_block.specs.Rule as rule
use Rattle.sx_check.specs.Judged.{CanBeApplied, IsJudged}
use Rattle.sx_check.specs.Explanations.{ExplainsButParent, ExplainsEarly}
use Rattle.sx_check.proofs.OnceNamed.{explains_early, is_judged}
use Rattle.sx_block.proofs.Rules.{but_parent}
use Rattle.sx_check.proofs.judging.judge.Goals as goal

pub judge_rest-requires-clause-height : goal.judge_rest-requires-clause-height
judge_rest-requires-clause-height c =
    but_parent c.args.ledger.now c.args.block.now rule.Body c.in_ok-check_parent.ensures.named

pub returns-clause-judged : goal.returns-clause-judged
returns-clause-judged c =
    let parts = c.args.ledger.now in
    let block = c.args.block.now in
    IfOk-weaker c.judge_rest.result (CanBeApplied parts block) (IsJudged parts block)
    (is_judged parts block (c.in_ok-check_parent.ensures.named rule.Parent (omega arith)))
    c.judge_rest.ensures.judged

pub returns-clause-refused : goal.returns-clause-refused
returns-clause-refused c =
    let parts = c.args.ledger.now in
    let block = c.args.block.now in
    IfErr-weaker c.judge_rest.result (ExplainsButParent parts block) (ExplainsEarly parts block)
    (explains_early parts block (c.in_ok-check_parent.ensures.named rule.Parent (omega arith)))
    c.judge_rest.ensures.refused
