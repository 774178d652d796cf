use Rattle.sx_commit.proofs.Folding.{good_for_one, true_is_good}
use Rattle.sx_commit.proofs.Ranges.{true_is_claim}
use Rattle.sx_commit.proofs.laws.commitment_laws.Goals as goal

pub returns-clause-true_is_good : goal.returns-clause-true_is_good
returns-clause-true_is_good c = true_is_good

pub returns-clause-true_is_claim : goal.returns-clause-true_is_claim
returns-clause-true_is_claim c = true_is_claim

pub returns-clause-one_root : goal.returns-clause-one_root
returns-clause-one_root c = good_for_one
