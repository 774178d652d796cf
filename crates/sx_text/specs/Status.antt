-- The codes with which the program ends.
use Rattle.std.specs.Prelude.{ℕ}
use Rattle.sx_text.specs.declared.status.Status.{Status}
use Rattle.sx_text.specs.declared.status.Status.TheVariants.{Done, Usage, ReadFault, WriteFault, Malformed, Refused}
use Rattle.sx_text.specs.declared.status.Status.TheVariants.{NoMemory}

abbrev pub code_of : Status → ℕ
code_of Done = 0
code_of Usage = 2
code_of ReadFault = 3
code_of WriteFault = 4
code_of (Malformed fault) = 5
code_of (Refused block why) = 6
code_of NoMemory = 7
