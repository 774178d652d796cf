use Rattle.sx_fill.proofs.PairValues.{pair_fills_are_theirs}
use Rattle.sx_fill.proofs.laws.pair_laws.Goals as goal

pub returns : goal.returns
returns c = record { theirs = pair_fills_are_theirs }
