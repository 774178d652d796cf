-- A table of what is debited and credited, row after row.
use Rattle.std.specs.Prelude.{◌≡◌, ◌≢◌, ℕ, ◌+◌, ◌<◌, ◌≤◌, ◌^◌, ◌⊎◌, List, length, slice_index, slice_get, Option, Some}
use Rattle.std.specs.Prelude.{◌==◌, ◌&&◌, [], if◌then◌else◌, All, slice_index_or}
use Rattle.std.specs.List.{sum_by}
use Rattle.sx_tally.specs.declared.pending.Pending.{Pending}
use Rattle.sx_tally.specs.declared.entry.Entry.{Entry}
use Rattle.sx_tally.specs.declared.postings.Postings.{Postings}
use Rattle.sx_ledger.specs.declared.parts.Parts.{Parts}
use Rattle.sx_ledger.specs.Effects.{Posting, credits, debits}
use Rattle.sx_ledger.specs.Ledger.{assets_of, ids}
use Rattle.sx_tx.specs.declared.tx.Tx.{Tx}

-- where the row of a place starts
abbrev pub start_of : Postings → ℕ → ℕ
start_of postings place = slice_index postings.starts.items place

-- what is debited of an asset at a place
abbrev pub debit_at : Postings → ℕ → ℕ → ℕ
debit_at postings place asset = slice_index postings.debits (start_of postings place + asset)

-- what is credited of an asset at a place
abbrev pub credit_at : Postings → ℕ → ℕ → ℕ
credit_at postings place asset = slice_index postings.credits (start_of postings place + asset)

-- the units that an entry has of an asset for the account at a place
abbrev pub units_at : Entry → ℕ → ℕ → ℕ
units_at entry place asset = if (entry.place == place) && (entry.asset == asset) then entry.amount else 0

-- the units that entries together have of an asset for the account at a place
abbrev pub units_in : List Entry → ℕ → ℕ → ℕ
units_in entries place asset = sum_by (λ entry. units_at entry place asset) entries

-- the entries are of accounts and assets below these numbers
abbrev pub AreWithin : ℕ → ℕ → List Entry → Type 0
AreWithin places width entries = All (λ entry. (entry.place < places) × (entry.asset < width)) entries

-- an entry of a posting to an account, which stands at the place
pub record IsEntry (parts : Parts) (posting : Option Posting) (entry : Entry) : Type 0 where
  pub account : ℕ
  pub there : slice_get (ids parts.accounts) entry.place ≡ Some account
  pub asset : entry.asset < assets_of parts
  pub is : posting ≡ Some (record { account = account; asset = entry.asset; units = entry.amount })

-- Rows for this many places and assets. The first row is all zero; each other row is that of one place, and lies by
-- itself.
pub record HasRows (postings : Postings) (places width : ℕ) : Type 0 where
  pub assets : postings.assets ≡ width
  pub as_many : length postings.starts.items ≡ places
  pub even : length postings.credits ≡ length postings.debits
  pub some : width ≤ length postings.debits
  pub no_debits : (x : ℕ) → x < width → slice_index postings.debits x ≡ 0
  pub no_credits : (x : ℕ) → x < width → slice_index postings.credits x ≡ 0
  pub within : (p : ℕ) → p < places → start_of postings p + width ≤ length postings.debits
  pub behind : (p : ℕ) → p < places → start_of postings p ≢ 0 → width ≤ start_of postings p
  pub apart : (p q : ℕ) → p < places → q < places → p ≢ q → start_of postings p ≢ 0 → start_of postings q ≢ 0
      → (start_of postings p + width ≤ start_of postings q) ⊎ (start_of postings q + width ≤ start_of postings p)

-- where a row of an entry's account is told, by a number that is not 0, it starts there
abbrev pub AreRowsFound : Postings → List Entry → List ℕ → Type 0
AreRowsFound postings entries rows =
    (k : ℕ) (entry : Entry) → k < length entries → slice_index rows k ≢ 0
    → slice_index rows k ≡ start_of postings (slice_index_or entries k entry).place

-- the account of each entry has a row, and it starts there
abbrev pub AreRowsOpen : Postings → List Entry → List ℕ → Type 0
AreRowsOpen postings entries rows =
    (k : ℕ) (entry : Entry) → k < length entries
    → (slice_index rows k ≢ 0) × (slice_index rows k ≡ start_of postings (slice_index_or entries k entry).place)

-- These entries can be added to the sums that `sum_at` tells.
pub record CanPost (postings : Postings) (sum_at : Postings → ℕ → ℕ → ℕ) (entries : List Entry) : Type 0 where
  pub rows : HasRows postings (length postings.starts.items) postings.assets
  pub within : AreWithin (length postings.starts.items) postings.assets entries
  pub room : (p x : ℕ) → p < length postings.starts.items → x < postings.assets
      → sum_at postings p x + units_in entries p x < 2 ^ 128

-- nothing is pending
pub record IsNonePending (pending : Pending) : Type 0 where
  pub debits : pending.debits.items ≡ []
  pub credits : pending.credits.items ≡ []

-- the debits and credits of the accounts of a ledger, at their places
pub record HasPostings (parts : Parts) (txs : List Tx) (postings : Postings) : Type 0 where
  pub debits : (place account asset : ℕ) → slice_get (ids parts.accounts) place ≡ Some account
      → asset < assets_of parts → debit_at postings place asset ≡ debits txs account asset
  pub credits : (place account asset : ℕ) → slice_get (ids parts.accounts) place ≡ Some account
      → asset < assets_of parts → credit_at postings place asset ≡ credits parts.offers txs account asset

-- the same, where what is pending is still to be posted
pub record HasPostingsWithPending (parts : Parts) (txs : List Tx) (pending : Pending) (postings : Postings)
    : Type 0 where
  pub debits_within : AreWithin (length parts.accounts) (assets_of parts) pending.debits.items
  pub credits_within : AreWithin (length parts.accounts) (assets_of parts) pending.credits.items
  pub debits : (place account asset : ℕ) → slice_get (ids parts.accounts) place ≡ Some account
      → asset < assets_of parts
      → debit_at postings place asset + units_in pending.debits.items place asset ≡ debits txs account asset
  pub credits : (place account asset : ℕ) → slice_get (ids parts.accounts) place ≡ Some account
      → asset < assets_of parts
      → credit_at postings place asset + units_in pending.credits.items place asset
      ≡ credits parts.offers txs account asset
