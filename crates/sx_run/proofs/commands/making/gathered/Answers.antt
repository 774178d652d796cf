use Rattle.std.proofs.Common.{◌≡◌, Result, Ok, Err, refl}
use Rattle.std.specs.Prelude.{IfOk}
use Rattle.sx_gather.specs.declared.fault.GatherFault.{GatherFault}
use Rattle.sx_gather.specs.declared.seal.Sealed.{Sealed}
use Rattle.sx_gather.specs.Start.{fault_of}
use Rattle.sx_outcome.specs.declared.space.NoRoom.{NoRoom}
use Rattle.sx_outcome.specs.Room.{room_for}
use Rattle.sx_run.proofs.commands.making.gathered.Goals as goal

-- what was gathered had room
room_there : (room : Result (Unit {0}) NoRoom) (s : Result Sealed GatherFault)
    → ((why : NoRoom) → room ≡ Err why → s ≡ Err (fault_of why)) → IfOk s (λ _. room ≡ Ok tt)
room_there (Ok tt) (Ok sealed) none = refl
room_there (Ok tt) (Err fault) none = tt
room_there (Err why) (Ok sealed) none = absurd (let e = none why refl in cc)
room_there (Err why) (Err fault) none = tt

pub returns-clause-room : goal.returns-clause-room
returns-clause-room g c =
    room_there (room_for c.args.ledger.now c.args.candidates) c.gather_list.result c.gather_list.ensures.no_room
