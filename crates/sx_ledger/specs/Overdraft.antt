-- Accounts whose debits are above what they may spend, and the first of them.
use Rattle.std.specs.Prelude.{◌≡◌, ℕ, ◌<◌, ◌≤◌, List}
use Rattle.sx_ledger.specs.declared.overdraft.Overdraft.{Overdraft}
use Rattle.sx_ledger.specs.declared.parts.Parts.{Parts}
use Rattle.sx_ledger.specs.Body.{holding_of, spendable}
use Rattle.sx_ledger.specs.Effects.{credits, debits}
use Rattle.sx_tx.specs.declared.tx.Tx.{Tx}

-- no debits of any account and asset are above what the account may spend
abbrev pub NoneOverdrawn : ℕ → Parts → List Tx → Type 0
NoneOverdrawn version parts txs =
    (account asset : ℕ) → debits txs account asset ≤ spendable version parts txs account asset

-- the first overdraft, by the id of the account and then by the asset
pub record IsFirstOverdrawn (version : ℕ) (parts : Parts) (txs : List Tx) (overdraft : Overdraft) : Type 0 where
  pub opening : overdraft.opening ≡ holding_of parts.accounts overdraft.account.0 overdraft.asset
  pub given : overdraft.credits ≡ credits parts.offers txs overdraft.account.0 overdraft.asset
  pub taken : overdraft.debits ≡ debits txs overdraft.account.0 overdraft.asset
  pub over : spendable version parts txs overdraft.account.0 overdraft.asset < overdraft.debits
  pub accounts_before : (account asset : ℕ) → account < overdraft.account.0
      → debits txs account asset ≤ spendable version parts txs account asset
  pub assets_before : (asset : ℕ) → asset < overdraft.asset
      → debits txs overdraft.account.0 asset ≤ spendable version parts txs overdraft.account.0 asset
