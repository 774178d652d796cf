-- What a ledger keeps, over its parts: lists and whole numbers.
use Rattle.std.specs.Prelude.{◌≡◌, ◌≢◌, ℕ, ◌+◌, ◌-◌, ◌^◌, ◌<◌, ◌≤◌, Bool, IsTrue, List, length, map, slice_index}
use Rattle.std.specs.Prelude.{None, ◌==◌, ◌&&◌, if◌then◌else◌}
use Rattle.std.specs.List.{All, Contains, list_any, sum_by}
use Rattle.std.specs.List.Sorted.{IsStrictlyIncreasing}
use Rattle.sx_base.specs.Ranges.{most_amount, most_assets}
use Rattle.sx_bytes.specs.Grammar.{in_order}
use Rattle.sx_ledger.specs.declared.account.Account.{Account}
use Rattle.sx_ledger.specs.declared.key.Key.{Key}
use Rattle.sx_ledger.specs.declared.offer.Offer.{Offer}
use Rattle.sx_ledger.specs.declared.parts.Parts.{Parts}
use Rattle.sx_ledger.specs.Order.{key_of, key_before}
use Rattle.sx_price.specs.Limits.{IsPrice, IsLimit}
use Rattle.sx_tx.specs.Transactions.{IsId, IsSeq, IsAmount}
use Rattle.sx_tx.specs.Window.{IsWindow, is_used}

-- ---- the most that a ledger takes

abbrev pub most_accounts : ℕ
most_accounts = 65536

abbrev pub most_offers : ℕ
most_offers = 262144

abbrev pub most_height : ℕ
most_height = 2 ^ 63 - 1

-- the versions of a ledger are 1 and 2
abbrev pub most_version : ℕ
most_version = 2

-- ---- accounts, offers and totals

-- what an account holds of an asset
abbrev pub balance_at : ℕ → Account → ℕ
balance_at asset account = slice_index account.balances asset

abbrev pub ids : List Account → List ℕ
ids accounts = map (λ account. account.id.0) accounts

-- some account has this id
abbrev pub holds_id : Parts → ℕ → Type 0
holds_id parts id = Contains (ids parts.accounts) id

abbrev pub keys : List Offer → List Key
keys offers = map key_of offers

-- some offer has this key
abbrev pub holds_key : Parts → Key → Type 0
holds_key parts key = Contains (keys parts.offers) key

-- how many assets there are
abbrev pub assets_of : Parts → ℕ
assets_of parts = length parts.prices

-- what an offer has of an asset
abbrev pub offered : ℕ → Offer → ℕ
offered asset offer = if offer.sell == asset then offer.amount else 0

-- what there is of an asset: in all balances, on offer, and kept by rounding
abbrev pub total_of : Parts → ℕ → ℕ
total_of parts asset =
    sum_by (balance_at asset) parts.accounts
    + (sum_by (offered asset) parts.offers + slice_index parts.rounding asset)

-- ---- what a ledger keeps

-- an account with a balance of each of `assets` assets, in a ledger of this version
pub record IsAccount (version assets : ℕ) (account : Account) : Type 0 where
  pub id : IsId account.id.0
  pub window : IsWindow version account.window
  pub balances : length account.balances ≡ assets
  pub in_range : All (λ balance. balance ≤ most_amount) account.balances

-- the account of an offer is there, and used the sequence number of the offer
abbrev pub has_owner : List Account → Offer → Bool
has_owner accounts offer =
    list_any (λ account. (account.id.0 == offer.account.0) && is_used account.window offer.seq) accounts

-- an offer of two different assets out of `assets`, by one of these accounts
pub record IsOffer (assets : ℕ) (accounts : List Account) (offer : Offer) : Type 0 where
  pub sell : offer.sell < assets
  pub buy : offer.buy < assets
  pub differ : offer.buy ≢ offer.sell
  pub limit : IsLimit offer.limit
  pub account : IsId offer.account.0
  pub seq : IsSeq offer.seq
  pub amount : IsAmount offer.amount
  pub owner : IsTrue (has_owner accounts offer)

pub record IsLedger (parts : Parts) : Type 0 where
  pub some_version : 1 ≤ parts.version
  pub few_versions : parts.version ≤ most_version
  pub height : parts.height ≤ most_height
  pub some_asset : 1 ≤ assets_of parts
  pub few_assets : assets_of parts ≤ most_assets
  pub prices : All IsPrice parts.prices
  pub one_rounding : length parts.rounding ≡ assets_of parts
  pub rounding : All (λ units. units ≤ most_amount) parts.rounding
  pub few_accounts : length parts.accounts ≤ most_accounts
  pub accounts : All (IsAccount parts.version (assets_of parts)) parts.accounts
  pub by_id : IsStrictlyIncreasing (ids parts.accounts)
  pub few_offers : length parts.offers ≤ most_offers
  pub offers : All (IsOffer (assets_of parts) parts.accounts) parts.offers
  pub by_key : IsTrue (in_order key_before None (keys parts.offers))
  pub totals : (asset : ℕ) → asset < assets_of parts → total_of parts asset ≤ most_amount

-- ---- the newer version

-- the same ledger in version 2, in which no number above an account's last one is marked where none was before
abbrev pub migrated : Parts → Parts
migrated parts = record parts { version = most_version }
