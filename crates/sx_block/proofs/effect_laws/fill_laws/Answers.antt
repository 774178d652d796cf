use Rattle.sx_block.proofs.FillLaws.{gives_has, gives_more, gets_less}
use Rattle.sx_block.proofs.effect_laws.fill_laws.Goals as goal

pub returns-clause-has : goal.returns-clause-has
returns-clause-has c = gives_has

pub returns-clause-gives : goal.returns-clause-gives
returns-clause-gives c = gives_more

pub returns-clause-gets : goal.returns-clause-gets
returns-clause-gets c = gets_less
