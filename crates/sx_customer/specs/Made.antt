-- What a block of candidates is, by the rules of gathering and clearing.
use Rattle.std.specs.Prelude.{◌≡◌, ℕ, ◌≤◌, true, List, length, Some, slice_get, nat_eq, is_some, IsTrue}
use Rattle.std.specs.List.{IsDistinct}
use Rattle.sx_block.specs.declared.header.Block.{Block}
use Rattle.sx_block.specs.Rule.{Rule}
use Rattle.sx_block.specs.Validity.{Holds, flow_of_block, low_in, undropped_low_in}
use Rattle.sx_customer.specs.Fairness.{Circulates, most_in, value_of_all}
use Rattle.sx_ledger.specs.declared.parts.Parts.{Parts}
use Rattle.sx_ledger.specs.Body.{cancelled, created, holding_of}
use Rattle.sx_ledger.specs.Effects.{debits}
use Rattle.sx_ledger.specs.Order.{same_key}
use Rattle.sx_multi.specs.Quotes.{posted_at}
use Rattle.sx_outcome.specs.declared.outcome.Outcome.{Outcome}
use Rattle.sx_outcome.specs.Gathering.{Decision, Shows, body_of, decisions, keeps_number}
use Rattle.sx_tx.specs.declared.tx.Tx.{Tx}

pub record IsMade (parts : Parts) (txs : List Tx) (mu rounds searches : ℕ) (said : Block) (told : List Outcome)
    : Type 0 where
  -- each candidate has one outcome, which its rule gives
  pub one_each : length told ≡ length txs
  pub by_rule : (place : ℕ) (one : Decision) → slice_get (decisions txs told) place ≡ Some one →
      Shows parts (decisions txs told) said.txs place one.tx one.outcome
  -- the transactions of the block are the accepted ones
  pub accepted : said.txs ≡ body_of (decisions txs told)
  -- no two candidates keep one sequence number, cancel one offer or create one account, and no account spends more than
  -- it has
  pub once : (i j : ℕ) (one other : Decision) → slice_get (decisions txs told) i ≡ Some one →
      slice_get (decisions txs told) j ≡ Some other → one.tx.account.0 ≡ other.tx.account.0 →
      one.tx.seq ≡ other.tx.seq → keeps_number one.outcome ≡ true → keeps_number other.outcome ≡ true → i ≡ j
  pub cancels_once : IsDistinct same_key (cancelled said.txs)
  pub creates_once : IsDistinct nat_eq (created said.txs)
  pub covered : (account asset : ℕ) → debits said.txs account asset ≤ holding_of parts.accounts account asset
  -- each rule of a block holds
  pub rules : (each : Rule) → Holds each parts said
  -- lower bounds are dropped exactly where no values keep them
  pub dropped : IsTrue (is_some said.header.dropped) → (value : ℕ → ℕ → ℕ) →
      Circulates (length parts.prices) (undropped_low_in parts said) (most_in parts said) value → ⊥
  pub kept : ((value : ℕ → ℕ → ℕ) →
      Circulates (length parts.prices) (undropped_low_in parts said) (most_in parts said) value → ⊥) →
      IsTrue (is_some said.header.dropped)
  -- no other values within the bounds come to more
  pub greatest : (value : ℕ → ℕ → ℕ) →
      Circulates (length parts.prices) (low_in parts said) (most_in parts said) value →
      value_of_all (length parts.prices) value ≤ value_of_all (length parts.prices) (flow_of_block said)
  pub version : said.header.version ≡ 1
  pub margin : said.header.mu ≡ mu
  -- the prices are those that the best of so many searches ends at
  pub prices : said.header.prices ≡ posted_at parts said.txs mu rounds searches
