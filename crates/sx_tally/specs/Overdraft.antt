-- Accounts whose debits are above what they may spend.
use Rattle.std.specs.Prelude.{◌≡◌, ℕ, ◌+◌, ◌<◌, ◌≤◌, List, length, slice_index, slice_get, Some, ◌==◌, if◌then◌else◌}
use Rattle.sx_ledger.specs.declared.overdraft.Overdraft.{Overdraft}
use Rattle.sx_tally.specs.declared.postings.Postings.{Postings}
use Rattle.sx_tally.specs.Postings.{credit_at, debit_at}
use Rattle.sx_ledger.specs.declared.account.Account.{Account}
use Rattle.sx_ledger.specs.declared.parts.Parts.{Parts}
use Rattle.sx_ledger.specs.Effects.{credits, debits}
use Rattle.sx_ledger.specs.Ledger.{balance_at}

-- what may be spent of an asset, where this much is there and this much is credited
abbrev pub may_spend : ℕ → ℕ → ℕ → ℕ
may_spend version opening credited = if version == 1 then opening else opening + credited

-- for assets below a limit, no debits of the account at a place are above what may be spent
abbrev pub CoversBelow : ℕ → ℕ → List ℕ → Postings → ℕ → Type 0
CoversBelow limit version balances postings place =
    (asset : ℕ) → asset < limit → debit_at postings place asset
    ≤ may_spend version (slice_index balances asset) (credit_at postings place asset)

-- the first overdraft of an account, which stands at a place
pub record IsOverdraftOf (version : ℕ) (account : Account) (postings : Postings) (place : ℕ) (overdraft : Overdraft)
    : Type 0 where
  pub id : overdraft.account ≡ account.id
  pub asset : overdraft.asset < length account.balances
  pub opening : overdraft.opening ≡ balance_at overdraft.asset account
  pub given : overdraft.credits ≡ credit_at postings place overdraft.asset
  pub taken : overdraft.debits ≡ debit_at postings place overdraft.asset
  pub over : may_spend version overdraft.opening overdraft.credits < overdraft.debits
  pub before : CoversBelow overdraft.asset version account.balances postings place

-- no debits of the account at a place are above what it may spend
abbrev pub CoversAt : ℕ → Parts → Postings → ℕ → Type 0
CoversAt version parts postings place =
    (account : Account) → slice_get parts.accounts place ≡ Some account → (asset : ℕ) → asset < length account.balances
    → debit_at postings place asset ≤ may_spend version (balance_at asset account) (credit_at postings place asset)

-- the first overdraft of the account at a place
pub record IsOverdraftAt (version : ℕ) (parts : Parts) (postings : Postings) (place : ℕ) (overdraft : Overdraft)
    : Type 0 where
  pub account : Account
  pub there : slice_get parts.accounts place ≡ Some account
  pub id : overdraft.account ≡ account.id
  pub asset : overdraft.asset < length account.balances
  pub opening : overdraft.opening ≡ balance_at overdraft.asset account
  pub given : overdraft.credits ≡ credit_at postings place overdraft.asset
  pub taken : overdraft.debits ≡ debit_at postings place overdraft.asset
  pub over : may_spend version overdraft.opening overdraft.credits < overdraft.debits
  pub before : (asset : ℕ) → asset < overdraft.asset
      → debit_at postings place asset ≤ may_spend version (balance_at asset account) (credit_at postings place asset)

-- no debits of the accounts from one place up to another are above what they may spend
abbrev pub AreCovered : ℕ → Parts → Postings → ℕ → ℕ → Type 0
AreCovered version parts postings from end =
    (place : ℕ) → from ≤ place → place < end → CoversAt version parts postings place

-- the first overdraft of the accounts from a place on
pub record IsFirstFrom (version : ℕ) (parts : Parts) (postings : Postings) (from : ℕ) (overdraft : Overdraft)
    : Type 0 where
  pub place : ℕ
  pub reached : from ≤ place
  pub here : IsOverdraftAt version parts postings place overdraft
  pub before : AreCovered version parts postings from place
