use Rattle.sx_block.proofs.Judgement.{every_block_is_judged}
use Rattle.sx_block.proofs.ReasonLaws.{one_reason, valid_is_not_refused, wrong_after_refuses, wrong_parent_refuses}
use Rattle.sx_block.proofs.refusal_laws.check_laws.Goals as goal

pub returns : goal.returns
returns c = record {
  one_reason = one_reason;
  valid_is_not_refused = valid_is_not_refused;
  wrong_after = wrong_after_refuses;
  wrong_parent = wrong_parent_refuses;
  judged = every_block_is_judged;
}
