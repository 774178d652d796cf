-- Why a filter stops.
use Rattle.std.specs.Prelude.{◌≡◌}
use Rattle.sx_block.specs.declared.invalid.Invalid.TheVariants as invalid
use Rattle.sx_filter.specs.declared.fault.FilterFault.{FilterFault}
use Rattle.sx_filter.specs.declared.fault.FilterFault.TheVariants as fault
use Rattle.sx_input.specs.declared.stop.Stop.{Stop}
use Rattle.sx_input.specs.declared.stop.Stop.TheVariants as stop

-- why a filter stops that keeps nothing
abbrev pub IsStoppedBy : FilterFault → Stop → Type 0
IsStoppedBy fault.NoMemory why = why ≡ stop.NoMemory
IsStoppedBy fault.Ended why = why ≡ stop.Refused 0 invalid.Ended
IsStoppedBy (fault.Crowded have more limit) why = why ≡ stop.Refused 0 (invalid.Crowded have more limit)
