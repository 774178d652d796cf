-- What a body does to a ledger, added up.
use Rattle.std.specs.Prelude.{◌≡◌, ℕ, List, Ok, Some, length, slice_index, slice_get, All}
use Rattle.sx_tally.specs.declared.tally.Tally.{Tally}
use Rattle.sx_tally.specs.declared.pending.Pending.{Pending}
use Rattle.sx_tally.specs.Changes.{HasCancelled, HasCreated}
use Rattle.sx_tally.specs.Postings.{HasPostings, HasPostingsWithPending, HasRows}
use Rattle.sx_ledger.specs.declared.account.Account.{Account}
use Rattle.sx_ledger.specs.declared.parts.Parts.{Parts}
use Rattle.sx_ledger.specs.Body.{IsAdmissibleIn, made, used_numbers}
use Rattle.sx_ledger.specs.Ledger.{assets_of}
use Rattle.sx_ledger.specs.Static.{static_of}
use Rattle.sx_tx.specs.declared.tx.Tx.{Tx}
use Rattle.sx_tx.specs.Transactions.{IsTx}

-- for each account of a ledger the map of the numbers that it uses, at its place
abbrev pub HasUsed : Parts → List Tx → List ℕ → Type 0
HasUsed parts txs maps =
    (place : ℕ) (account : Account) → slice_get parts.accounts place ≡ Some account
    → slice_index maps place ≡ used_numbers txs account.id.0 account.window.last

-- a tally with the places of this ledger
pub record IsTallyFor (parts : Parts) (tally : Tally) : Type 0 where
  pub rows : HasRows tally.postings (length parts.accounts) (assets_of parts)
  pub maps : length tally.used.items ≡ length parts.accounts
  pub flags : length tally.cancellations.flags.items ≡ length parts.offers

-- The tally of transactions on a ledger: each passes the static test, and their effects are added up.
pub record IsTally (parts : Parts) (txs : List Tx) (tally : Tally) : Type 0 where
  pub shape : IsTallyFor parts tally
  pub passes : All (λ tx. static_of parts tx ≡ Ok tt) txs
  pub in_range : All IsTx txs
  pub postings : HasPostings parts txs tally.postings
  pub used : HasUsed parts txs tally.used.items
  pub cancelled : HasCancelled parts txs tally.cancellations
  pub created : HasCreated txs tally.creations
  pub made : tally.made.items ≡ made txs

-- The same, where debits and credits that are pending are still to be posted.
pub record IsTallyWithPending (parts : Parts) (txs : List Tx) (pending : Pending) (tally : Tally) : Type 0 where
  pub shape : IsTallyFor parts tally
  pub passes : All (λ tx. static_of parts tx ≡ Ok tt) txs
  pub in_range : All IsTx txs
  pub postings : HasPostingsWithPending parts txs pending tally.postings
  pub used : HasUsed parts txs tally.used.items
  pub cancelled : HasCancelled parts txs tally.cancellations
  pub created : HasCreated txs tally.creations
  pub made : tally.made.items ≡ made txs

-- the tally of some body that the ledger admits by the rule of version 2, which admits all that version 1 does
pub record IsTallyOfBody (parts : Parts) (tally : Tally) : Type 0 where
  pub txs : List Tx
  pub body : IsAdmissibleIn 2 parts txs
  pub is : IsTally parts txs tally
