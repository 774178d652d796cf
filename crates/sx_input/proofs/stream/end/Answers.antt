use Rattle.sx_input.proofs.Faults.{at_its_end, not_ended}
use Rattle.sx_input.proofs.stream.end.Goals as goal

pub returns-in-Ok-None-clause-ended : goal.returns-in-Ok-None-clause-ended
returns-in-Ok-None-clause-ended g c =
    at_its_end _ c.args.at _ _ (rw c.in-Ok-None.field-0-is at c.in-Ok-None.ensures.reads)

pub returns-in-Err-Malformed-clause-stops : goal.returns-in-Err-Malformed-clause-stops
returns-in-Err-Malformed-clause-stops g c =
    rw c.stop_at-in-Err-Malformed.ensures
    (not_ended c.args.at _ _ c.in-Err-Malformed.field-0-0
    (rw c.in-Err-Malformed.field-0-is at c.in-Err-Malformed.ensures.stops))
