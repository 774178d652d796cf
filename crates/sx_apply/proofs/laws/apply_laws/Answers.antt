use Rattle.sx_apply.proofs.ClearLaws.{valid_can_apply}
use Rattle.sx_apply.proofs.laws.apply_laws.Goals as goal

pub returns : goal.returns
returns c = record { valid_can_apply = valid_can_apply }
