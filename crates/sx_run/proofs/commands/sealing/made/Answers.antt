use Rattle.sx_meaning.proofs.Gathered.{gathered_form}
use Rattle.sx_run.proofs.commands.sealing.made.Goals as goal

pub returns-in-Ok-clause-told : goal.returns-in-Ok-clause-told
returns-in-Ok-clause-told g c = gathered_form _ _ _ _ c.requires.candidates c.in-Ok.ensures.made.gathered
