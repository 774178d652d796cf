-- The accounts of a ledger as they are after a body.
use Rattle.std.specs.Prelude.{◌≡◌, ℕ, List, Some, map, replicate, slice_get}
use Rattle.sx_tally.specs.declared.after.offers.OfferChange.{OfferChange}
use Rattle.sx_tally.specs.declared.tally.Tally.{Tally}
use Rattle.sx_tally.specs.OfferChanges.{changed_by}
use Rattle.sx_tally.specs.Tally.{IsTally, IsTallyOfBody}
use Rattle.sx_ledger.specs.declared.account.Account.{Account}
use Rattle.sx_ledger.specs.declared.parts.Parts.{Parts}
use Rattle.sx_ledger.specs.Body.{IsAdmissibleIn, account_after, accounts_after, offers_after}
use Rattle.sx_ledger.specs.Ledger.{IsLedger}
use Rattle.sx_tx.specs.declared.tx.Tx.{Tx}

-- ---- one account

-- the account stands at this place of a ledger of this version, and the tally is that of a body that the ledger admits
pub record StandsAt (version place : ℕ) (account : Account) (tally : Tally) : Type 0 where
  pub parts : Parts
  pub ledger : IsLedger parts
  pub same_version : parts.version ≡ version
  pub there : slice_get parts.accounts place ≡ Some account
  pub body : IsTallyOfBody parts tally

-- the account at a place is this one after the body that has the tally, whatever the ledger in which it stands
abbrev pub IsAccountAfter : ℕ → ℕ → Tally → Account → Account → Type 0
IsAccountAfter version place tally account after =
    (parts : Parts) (txs : List Tx) → IsLedger parts → parts.version ≡ version
    → slice_get parts.accounts place ≡ Some account → IsAdmissibleIn 2 parts txs → IsTally parts txs tally
    → after ≡ account_after parts txs account

-- ---- all accounts

-- the parts of a ledger with the accounts that are there as they are after the body
abbrev pub with_known_accounts : Parts → List Tx → Parts
with_known_accounts parts txs = record parts { accounts = map (account_after parts txs) parts.accounts }

-- an account of this id that used no sequence number and holds nothing of any asset
abbrev pub fresh : ℕ → ℕ → Account
fresh assets id = record {
  id = record { 0 = id };
  window = record { last = 0; used = 0 };
  balances = replicate assets 0;
}

-- with all accounts, those that are created too
abbrev pub with_all_accounts : Parts → List Tx → Parts
with_all_accounts parts txs = record parts { accounts = accounts_after parts txs }

-- some ledger has these parts but for its accounts, which are as they are after a body of this tally, and this is what
-- the body changes the offers to
pub record AreKnownAfter (parts : Parts) (tally : Tally) (change : OfferChange) : Type 0 where
  pub before : Parts
  pub ledger : IsLedger before
  pub txs : List Tx
  pub body : IsAdmissibleIn 2 before txs
  pub is : IsTally before txs tally
  pub known : parts ≡ with_known_accounts before txs
  pub after : changed_by change before.offers ≡ offers_after before txs
