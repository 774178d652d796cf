use Rattle.sx_run.proofs.Demonstrations.{room_there}
use Rattle.sx_run.proofs.commands.demonstrating.made.Goals as goal

pub no_memory-requires : goal.no_memory-requires
no_memory-requires g c =
    room_there c.demo_laws.ensures.number c.args.number c.args.ledger.now c.in_ok-candidates.candidates c.in-Err.fault
    c.requires.parts c.in_ok-candidates.ensures.txs c.in-Err.ensures.fault
