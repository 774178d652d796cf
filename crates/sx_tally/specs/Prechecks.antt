-- What a look at all transactions of a body answers.
use Rattle.std.specs.Prelude.{List}
use Rattle.sx_tally.specs.declared.prechecking.PrecheckFault.{PrecheckFault}
use Rattle.sx_tally.specs.declared.prechecking.PrecheckFault.TheVariants.{NoMemory, Refused}
use Rattle.sx_ledger.specs.declared.parts.Parts.{Parts}
use Rattle.sx_ledger.specs.FirstRefusal.{IsFirstRefused}
use Rattle.sx_tx.specs.declared.tx.Tx.{Tx}

-- memory ran out, or a transaction is the first that is refused
abbrev pub IsPrecheckFault : Parts → List Tx → PrecheckFault → Type 0
IsPrecheckFault parts txs NoMemory = Unit {0}
IsPrecheckFault parts txs (Refused index why) = IsFirstRefused parts txs index why
