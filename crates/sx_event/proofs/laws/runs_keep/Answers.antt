use Rattle.sx_event.proofs.Runs.{run_keeps}
use Rattle.sx_event.proofs.laws.runs_keep.Goals as goal

pub returns : goal.returns
returns c = run_keeps
