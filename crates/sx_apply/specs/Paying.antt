-- When sellers can be credited, and a ledger of which they are.
use Rattle.std.specs.Prelude.{◌≡◌, ℕ, ◌+◌, ◌^◌, ◌<◌, ◌≤◌, List, length, map, All}
use Rattle.std.specs.List.Sorted.{IsStrictlyIncreasing}
use Rattle.sx_apply.specs.FillSums.{paid_by, proceeds_by}
use Rattle.sx_apply.specs.Trading.{CanExecute}
use Rattle.sx_ledger.specs.declared.account.Account.{Account}
use Rattle.sx_ledger.specs.declared.fill.Fill.{Fill}
use Rattle.sx_ledger.specs.declared.offer.Offer.{Offer}
use Rattle.sx_ledger.specs.declared.parts.Parts.{Parts}
use Rattle.sx_ledger.specs.Ledger.{IsLedger, balance_at, ids, most_accounts, most_height}

-- these accounts have all assets that the offers buy, and room for what the fills get
pub record CanPay (offers : List Offer) (fills : List Fill) (accounts : List Account) : Type 0 where
  pub by_id : IsStrictlyIncreasing (ids accounts)
  pub few : length accounts ≤ most_accounts
  pub places : All (λ fill. fill.place < length offers) fills
  pub assets : All (λ offer. All (λ account. offer.buy < length account.balances) accounts) offers
  pub fits : All (λ account. (asset : ℕ) → asset < length account.balances
      → balance_at asset account + proceeds_by offers fills account.id.0 asset < 2 ^ 64) accounts

-- the parts of a ledger with each seller credited
abbrev pub with_sellers_paid : List Fill → Parts → Parts
with_sellers_paid fills parts = record parts { accounts = map (paid_by parts.offers fills) parts.accounts }

-- these are the parts of a ledger that can trade so, but for its sellers, who are credited already
pub record CanSettle (parts : Parts) (prices rounding : List ℕ) (fills : List Fill) : Type 0 where
  pub before : Parts
  pub ledger : IsLedger before
  pub below_last : before.height < most_height
  pub can_execute : CanExecute before prices rounding fills
  pub paid : parts ≡ with_sellers_paid fills before
