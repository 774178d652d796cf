-- All accounts of a ledger, apart from the rest of it.
use Rattle.std.specs.Prelude.{◌≡◌, ℕ, List}
use Rattle.sx_tally.specs.declared.tally.Tally.{Tally}
use Rattle.sx_tally.specs.Tally.{IsTallyOfBody}
use Rattle.sx_ledger.specs.declared.account.Account.{Account}
use Rattle.sx_ledger.specs.declared.parts.Parts.{Parts}
use Rattle.sx_ledger.specs.Ledger.{IsLedger}

-- these are the accounts of a ledger of this version, and the tally is that of a body that the ledger admits
pub record AreAccounts (version : ℕ) (accounts : List Account) (tally : Tally) : Type 0 where
  pub parts : Parts
  pub ledger : IsLedger parts
  pub same_version : parts.version ≡ version
  pub are : parts.accounts ≡ accounts
  pub body : IsTallyOfBody parts tally
