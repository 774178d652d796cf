use Rattle.sx_state.proofs.Opening.{opening_first}
use Rattle.sx_state.proofs.writing.write_opening.Goals as goal

pub returns-clause-rest : goal.returns-clause-rest
returns-clause-rest c = opening_first c.args.ledger.now
