use Rattle.sx_dual.proofs.CutLaws.{cut_refutes}
use Rattle.sx_dual.proofs.Duality.{fit_is_greatest, one_greatest_value}
use Rattle.sx_dual.proofs.laws.dual_laws.Goals as goal

pub returns-clause-greatest : goal.returns-clause-greatest
returns-clause-greatest c = fit_is_greatest

pub returns-clause-none : goal.returns-clause-none
returns-clause-none c = cut_refutes

pub returns-clause-one_value : goal.returns-clause-one_value
returns-clause-one_value c = one_greatest_value
