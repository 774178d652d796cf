-- What a check answers in place of Ok: nothing if memory ran out, else the first reason.
use Rattle.sx_block.specs.declared.header.Block.{Block}
use Rattle.sx_check.specs.declared.fault.CheckFault.{CheckFault}
use Rattle.sx_check.specs.declared.fault.CheckFault.TheVariants as check_fault
use Rattle.sx_block.specs.declared.invalid.Invalid.{Invalid}
use Rattle.sx_block.specs.Refusals.{Refuses, RefusesButParent, RefusesEarly}
use Rattle.sx_ledger.specs.declared.parts.Parts.{Parts}

-- nothing where memory ran out; else the first reason
abbrev pub Explains : Parts → Block → CheckFault → Type 0
Explains parts block check_fault.NoMemory = Unit {0}
Explains parts block (check_fault.Invalid why) = Refuses parts block why

abbrev pub ExplainsEarly : Parts → Block → CheckFault → Type 0
ExplainsEarly parts block check_fault.NoMemory = Unit {0}
ExplainsEarly parts block (check_fault.Invalid why) = RefusesEarly parts block why

abbrev pub ExplainsButParent : Parts → Block → CheckFault → Type 0
ExplainsButParent parts block check_fault.NoMemory = Unit {0}
ExplainsButParent parts block (check_fault.Invalid why) = RefusesButParent parts block why
