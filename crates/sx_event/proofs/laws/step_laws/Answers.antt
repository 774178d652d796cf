use Rattle.sx_event.proofs.Keeping.{look_keeps, take_keeps, claim_keeps, split_keeps, join_keeps}
use Rattle.sx_event.proofs.laws.step_laws.Goals as goal

pub returns-clause-look : goal.returns-clause-look
returns-clause-look c = look_keeps

pub returns-clause-take : goal.returns-clause-take
returns-clause-take c = take_keeps

pub returns-clause-claim : goal.returns-clause-claim
returns-clause-claim c = claim_keeps

pub returns-clause-split : goal.returns-clause-split
returns-clause-split c = split_keeps

pub returns-clause-join : goal.returns-clause-join
returns-clause-join c = join_keeps
