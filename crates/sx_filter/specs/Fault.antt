-- Why a filter does not answer a list.
use Rattle.std.specs.Prelude.{◌≡◌, Result, Err}
use Rattle.sx_filter.specs.declared.fault.FilterFault.{FilterFault}
use Rattle.sx_filter.specs.declared.fault.FilterFault.TheVariants as fault
use Rattle.sx_outcome.specs.declared.space.NoRoom.{NoRoom}
use Rattle.sx_outcome.specs.declared.space.NoRoom.TheVariants as no_room

-- the fault that says why there is no room
abbrev pub fault_of : NoRoom → FilterFault
fault_of no_room.Ended = fault.Ended
fault_of (no_room.Crowded have more limit) = fault.Crowded have more limit

-- memory ran out, or there is no room
abbrev pub IsFaultOf : Result (Unit {0}) NoRoom → FilterFault → Type 0
IsFaultOf room fault.NoMemory = Unit {0}
IsFaultOf room fault.Ended = room ≡ Err no_room.Ended
IsFaultOf room (fault.Crowded have more limit) = room ≡ Err (no_room.Crowded have more limit)
