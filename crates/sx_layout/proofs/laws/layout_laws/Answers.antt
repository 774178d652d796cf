use Rattle.sx_layout.proofs.SpotLaws.{bits_are_apart, purses_are_apart}
use Rattle.sx_layout.proofs.PlanLaws.{bits_are_there, purses_are_there, words_fit}
use Rattle.sx_layout.proofs.NewIdLaws.{new_ids_are_created, new_ids_are_found, other_ids_are_not}
use Rattle.sx_layout.proofs.laws.layout_laws.Goals as goal

pub returns-clause-bits_apart : goal.returns-clause-bits_apart
returns-clause-bits_apart c = bits_are_apart

pub returns-clause-purses_apart : goal.returns-clause-purses_apart
returns-clause-purses_apart c = purses_are_apart

pub returns-clause-bits_there : goal.returns-clause-bits_there
returns-clause-bits_there c = bits_are_there

pub returns-clause-purses_there : goal.returns-clause-purses_there
returns-clause-purses_there c = purses_are_there

pub returns-clause-fit : goal.returns-clause-fit
returns-clause-fit c = words_fit

pub returns-clause-new_ids : goal.returns-clause-new_ids
returns-clause-new_ids c = new_ids_are_created

pub returns-clause-new_ids_found : goal.returns-clause-new_ids_found
returns-clause-new_ids_found c = new_ids_are_found

pub returns-clause-others_not : goal.returns-clause-others_not
returns-clause-others_not c = other_ids_are_not
