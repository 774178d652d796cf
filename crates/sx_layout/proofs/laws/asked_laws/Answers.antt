use Rattle.sx_layout.proofs.AskedLaws.{asked_clear, asked_there}
use Rattle.sx_layout.proofs.laws.asked_laws.Goals as goal

pub returns : goal.returns
returns c = record { there = asked_there; clear = asked_clear }
