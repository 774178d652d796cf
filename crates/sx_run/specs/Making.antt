-- The seal of given numbers, and why it stops where candidates are not gathered.
use Rattle.std.specs.Prelude.{◌≡◌}
use Rattle.sx_block.specs.declared.invalid.Invalid.TheVariants as invalid
use Rattle.sx_gather.specs.declared.fault.GatherFault.{GatherFault}
use Rattle.sx_gather.specs.declared.fault.GatherFault.TheVariants as fault
use Rattle.sx_input.specs.declared.stop.Stop.{Stop}
use Rattle.sx_input.specs.declared.stop.Stop.TheVariants as stop
use Rattle.sx_run.specs.declared.commands.making.Numbers.{Numbers}
use Rattle.sx_words.specs.declared.command.Command.{Command}
use Rattle.sx_words.specs.declared.command.Command.TheVariants.{Seal}

-- the seal of these numbers
abbrev pub seal_of : Numbers → Command
seal_of numbers = Seal numbers.workers numbers.shards numbers.mu numbers.rounds numbers.searches

-- why a seal stops where candidates are not gathered
abbrev pub IsStoppedBy : GatherFault → Stop → Type 0
IsStoppedBy fault.NoMemory why = why ≡ stop.NoMemory
IsStoppedBy fault.Ended why = why ≡ stop.Refused 0 invalid.Ended
IsStoppedBy (fault.Crowded have more limit) why = why ≡ stop.Refused 0 (invalid.Crowded have more limit)
