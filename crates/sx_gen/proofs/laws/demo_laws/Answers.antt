use Rattle.sx_gen.proofs.Ranges.{all_candidates, draws_in_range}
use Rattle.sx_gen.proofs.laws.demo_laws.Goals as goal

pub returns-clause-number : goal.returns-clause-number
returns-clause-number c = all_candidates

pub returns-clause-ranges : goal.returns-clause-ranges
returns-clause-ranges c = draws_in_range
