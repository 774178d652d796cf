-- What holds at some answers.
use Rattle.std.specs.Prelude.{Bool, true, false}
use Rattle.sx_text.specs.declared.status.Status.{Status}
use Rattle.sx_text.specs.declared.status.Status.TheVariants.{Done, Usage, ReadFault, WriteFault, Malformed, Refused}
use Rattle.sx_text.specs.declared.status.Status.TheVariants.{NoMemory}

-- the answers at which nothing is written
abbrev pub is_silent : Status → Bool
is_silent Done = false
is_silent WriteFault = false
is_silent Usage = true
is_silent ReadFault = true
is_silent (Malformed fault) = true
is_silent (Refused block why) = true
is_silent NoMemory = true

-- a fact at each answer but ReadFault
abbrev pub UnlessReadFails : Status → Type 0 → Type 0
UnlessReadFails ReadFault fact = Unit {0}
UnlessReadFails _ fact = fact

-- a fact at each answer but WriteFault
abbrev pub UnlessWriteFails : Status → Type 0 → Type 0
UnlessWriteFails WriteFault fact = Unit {0}
UnlessWriteFails _ fact = fact
