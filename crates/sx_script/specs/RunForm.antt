-- The outcomes of a script can be encoded.
use Rattle.std.specs.Prelude.{ℕ, List}
use Rattle.sx_outcome.specs.Outcomes.{AreOutcomes}
use Rattle.sx_script.specs.Running.{outcomes_of_run}
use Rattle.sx_ledger.specs.declared.parts.Parts.{Parts}
use Rattle.sx_tx.specs.declared.tx.Tx.{Tx}
use Rattle.sx_tx.specs.Transactions.{IsTxList}

-- there are no more outcomes than candidates may be, and each has its form
abbrev pub OutcomesKeepForm : Type 0
OutcomesKeepForm =
    (parts : Parts) (candidates : List Tx) (actors : ℕ) (turns : List ℕ) → IsTxList candidates →
    AreOutcomes (outcomes_of_run parts candidates actors turns)
