use Rattle.sx_layout.proofs.ClosingLaw.{closing_gathers}
use Rattle.sx_layout.proofs.laws.closing_law.Goals as goal

pub returns : goal.returns
returns c = closing_gathers
