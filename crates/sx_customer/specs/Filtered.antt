-- What a filter wrote.
use Rattle.std.specs.Prelude.{◌≡◌, ℕ, ◌≤◌, List, ◌++◌, All, nat_eq}
use Rattle.std.specs.List.{IsDistinct}
use Rattle.sx_filter.specs.Kept.{kept_of}
use Rattle.sx_ledger.specs.declared.parts.Parts.{Parts}
use Rattle.sx_ledger.specs.Body.{cancelled, created, holding_of}
use Rattle.sx_ledger.specs.Effects.{debits}
use Rattle.sx_ledger.specs.Order.{same_key}
use Rattle.sx_meaning.specs.Items.{candidates, item_record, state_record}
use Rattle.sx_outcome.specs.declared.outcome.Outcome.{Outcome}
use Rattle.sx_outcome.specs.declared.outcome.Outcome.TheVariants as outcome
use Rattle.sx_outcome.specs.Gathering.{IsGathered}
use Rattle.sx_tx.specs.declared.tx.Tx.{Tx}

-- a state and candidates were read, and the candidates that no other stands in the way of were written
pub record Filtered (input text : List ℕ) : Type 0 where
  pub parts : Parts
  pub txs : List Tx
  pub read : input ≡ state_record parts ++ item_record (candidates txs)
  pub written : text ≡ item_record (candidates (kept_of parts txs))

-- The input began with a state and candidates. Those that were written exclude each other nowhere, together spend no
-- more than there is, and are accepted by each gathering of them.
pub record IsKept (input text : List ℕ) : Type 0 where
  pub parts : Parts
  pub txs : List Tx
  pub kept : List Tx
  pub rest : List ℕ
  pub read : input ≡ state_record parts ++ item_record (candidates txs) ++ rest
  pub written : text ≡ item_record (candidates kept)
  pub cancels_once : IsDistinct same_key (cancelled kept)
  pub creates_once : IsDistinct nat_eq (created kept)
  pub covered : (account asset : ℕ) → debits kept account asset ≤ holding_of parts.accounts account asset
  pub accepted : (told : List Outcome) (body : List Tx) → IsGathered parts kept told body →
      All (λ one. one ≡ outcome.Accepted) told
