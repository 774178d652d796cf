use Rattle.sx_event.proofs.Read.{others_stay, lost_finds_less, bits_stay}
use Rattle.sx_event.proofs.laws.word_laws.Goals as goal

pub returns-clause-lost : goal.returns-clause-lost
returns-clause-lost c = lost_finds_less

pub returns-clause-bits : goal.returns-clause-bits
returns-clause-bits c = bits_stay

pub returns-clause-views : goal.returns-clause-views
returns-clause-views c = others_stay
