-- What holds of what a filter writes.
use Rattle.std.specs.Prelude.{◌≡◌, ℕ, List, [], ◌∷◌, ◌++◌, All}
use Rattle.sx_outcome.specs.declared.outcome.Outcome.{Outcome}
use Rattle.sx_outcome.specs.declared.outcome.Outcome.TheVariants as outcome
use Rattle.sx_outcome.specs.Gathering.{IsGathered}
use Rattle.sx_ledger.specs.declared.parts.Parts.{Parts}
use Rattle.sx_ledger.specs.Body.{IsAdmissible}
use Rattle.sx_meaning.specs.Items.{candidates, item_record, records, state}
use Rattle.sx_meaning.specs.Outputs.{MayWrite}
use Rattle.sx_tx.specs.declared.tx.Tx.{Tx}
use Rattle.sx_words.specs.declared.command.Command.TheVariants.{Filter}

-- the record of candidates was written that may be the body of a block on the state that was read, and all of which a
-- gathering accepts
pub record WritesBody (bytes text : List ℕ) : Type 0 where
  pub parts : Parts
  pub txs : List Tx
  pub body : List Tx
  pub rest : List ℕ
  pub read : bytes ≡ records (state parts ∷ candidates txs ∷ []) ++ rest
  pub written : text ≡ item_record (candidates body)
  pub admissible : IsAdmissible parts body
  pub accepted : (outcomes : List Outcome) (block : List Tx) → IsGathered parts body outcomes block
      → All (λ said. said ≡ outcome.Accepted) outcomes

abbrev pub FiltersBodies : Type 0
FiltersBodies =
    (workers : ℕ) (bytes text left : List ℕ) → MayWrite (Filter workers) bytes text left → WritesBody bytes text
