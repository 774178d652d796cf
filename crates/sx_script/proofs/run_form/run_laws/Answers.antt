use Rattle.sx_script.proofs.RunForm.{outcomes_keep_form}
use Rattle.sx_script.proofs.run_form.run_laws.Goals as goal

pub returns : goal.returns
returns c = record { form = outcomes_keep_form }
