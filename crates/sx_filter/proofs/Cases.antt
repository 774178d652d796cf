-- Why a filter does not answer a list, computed at cases.
use Rattle.std.proofs.Common.{◌≡◌, Ok, Err, refl}
use Rattle.sx_filter.specs.declared.fault.FilterFault.TheVariants as fault
use Rattle.sx_filter.specs.Fault.{IsFaultOf, fault_of}
use Rattle.sx_outcome.specs.declared.space.NoRoom.TheVariants as no_room

ended : fault_of no_room.Ended ≡ fault.Ended
ended = refl

crowded : fault_of (no_room.Crowded 3 2 4) ≡ fault.Crowded 3 2 4
crowded = refl

crowded_is_why : IsFaultOf (Err (no_room.Crowded 3 2 4)) (fault.Crowded 3 2 4)
crowded_is_why = refl

-- not in another order, and not where there is room
crowded_otherwise : IsFaultOf (Err (no_room.Crowded 3 2 4)) (fault.Crowded 2 3 4) → ⊥
crowded_otherwise why = absurd cc

not_crowded : IsFaultOf (Ok tt) (fault.Crowded 3 2 4) → ⊥
not_crowded why = absurd cc

not_ended : IsFaultOf (Ok tt) fault.Ended → ⊥
not_ended why = absurd cc

not_the_end : IsFaultOf (Err (no_room.Crowded 3 2 4)) fault.Ended → ⊥
not_the_end why = absurd cc
