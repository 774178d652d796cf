use Rattle.sx_input.proofs.Faults.{takes_record}
use Rattle.sx_input.proofs.stream.next.Goals as goal

pub returns-in-Ok-clause-encoded : goal.returns-in-Ok-clause-encoded
returns-in-Ok-clause-encoded g c =
    takes_record c.args.tags.now c.args.at _ _ c.in-Ok.found c.in-Ok.ensures.exact c.in-Ok.ensures.encoded
