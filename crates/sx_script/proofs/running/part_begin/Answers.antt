use Rattle.sx_script.proofs.Openings.{begin_within}
use Rattle.sx_script.proofs.running.part_begin.Goals as goal

pub returns-clause-within : goal.returns-clause-within
returns-clause-within c = begin_within c.args.count c.args.n c.args.k c.requires.some c.requires.within
