use Rattle.sx_block.proofs.InPart.{one_trades_in_part}
use Rattle.sx_block.proofs.LimitLaws.{only_within_limit, must_in_full}
use Rattle.sx_block.proofs.effect_laws.limit_laws.Goals as goal

pub returns : goal.returns
returns c = record { within = only_within_limit; in_full = must_in_full; one_in_part = one_trades_in_part }
