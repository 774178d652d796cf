-- What a block does to accounts, offers and totals, in plain sums.
use Rattle.std.specs.Prelude.{◌≡◌, ◌≢◌, ℕ, ◌+◌, ◌-◌, ◌*◌, ◌^◌, ◌<◌, ◌≤◌, Bool, false, length, None, Some, nat_le}
use Rattle.std.specs.Prelude.{slice_index}
use Rattle.std.specs.Prelude.{◌==◌, ◌&&◌, if◌then◌else◌}
use Rattle.std.specs.List.{Contains, filter, list_any, sum_by}
use Rattle.sx_block.specs.declared.header.Block.{Block}
use Rattle.sx_block.specs.Effects.{gets_in, gives_in, value_in}
use Rattle.sx_block.specs.Validity.{flow_of_block, ledger_after, low_in, offers_of, undropped_low_in}
use Rattle.sx_dual.specs.declared.cut.Cut.{Cut}
use Rattle.sx_dual.specs.Sums.{between, sum_below}
use Rattle.sx_ledger.specs.declared.account.Account.{Account}
use Rattle.sx_ledger.specs.declared.offer.Offer.{Offer}
use Rattle.sx_ledger.specs.declared.parts.Parts.{Parts}
use Rattle.sx_ledger.specs.Body.{cancelled, created, holding_of, made}
use Rattle.sx_ledger.specs.Effects.{credits, debits}
use Rattle.sx_ledger.specs.Ledger.{IsLedger}
use Rattle.sx_ledger.specs.Order.{key_of, same_key}

-- ---- an account

-- what the offers of an account get of an asset
abbrev pub earned : Parts → Block → ℕ → ℕ → ℕ
earned parts said account asset =
    sum_by
    (λ offer. if (offer.account.0 == account) && (offer.buy == asset) then gets_in parts said offer else 0)
    (offers_of parts said)

-- The account is there after the block. Of each asset, what it has then and what is debited to it are together what it
-- had, what is credited to it, and what its offers get.
pub record IsPaid (parts : Parts) (said : Block) (account : Account) : Type 0 where
  pub after : Account
  pub there : Contains (ledger_after parts said).accounts after
  pub same : after.id ≡ account.id
  pub balance : (asset : ℕ) → asset < length account.balances →
      slice_index after.balances asset + debits said.txs account.id.0 asset
      ≡ slice_index account.balances asset
      + (credits parts.offers said.txs account.id.0 asset + earned parts said account.id.0 asset)

-- An account that the block creates is there afterwards. Of each asset it has what is credited to it less what is
-- debited, and what its offers get.
pub record IsOpened (parts : Parts) (said : Block) (id : ℕ) : Type 0 where
  pub after : Account
  pub there : Contains (ledger_after parts said).accounts after
  pub same : after.id.0 ≡ id
  pub balance : (asset : ℕ) → asset < length parts.prices →
      slice_index after.balances asset
      ≡ (credits parts.offers said.txs id asset - debits said.txs id asset) + earned parts said id asset

-- ---- an offer

-- a transaction of the block cancels the offer
abbrev pub is_cancelled : Block → Offer → Bool
is_cancelled said offer = list_any (same_key (key_of offer)) (cancelled said.txs)

-- what stays of an offer: what it has less what it gives
abbrev pub left_of : Parts → Block → Offer → Offer
left_of parts said offer = record offer { amount = offer.amount - gives_in parts said offer }

-- ---- an asset

-- what all accounts and all offers of a ledger have of an asset
abbrev pub total_in : Parts → ℕ → ℕ
total_in parts asset =
    sum_by (λ account. slice_index account.balances asset) parts.accounts
    + sum_by (λ offer. if offer.sell == asset then offer.amount else 0) parts.offers

-- the same with what the ledger keeps of rounding
abbrev pub total_with_rounding : Parts → ℕ → ℕ
total_with_rounding parts asset =
    sum_by (λ account. slice_index account.balances asset) parts.accounts
    + (sum_by (λ offer. if offer.sell == asset then offer.amount else 0) parts.offers
    + slice_index parts.rounding asset)

-- ---- trade

-- the price of an asset in a block
abbrev pub price_in : Block → ℕ → ℕ
price_in said asset = slice_index said.header.prices asset

-- what the offers of a pair may trade: the value of those whose limit is at most the rate of the block
abbrev pub most_in : Parts → Block → ℕ → ℕ → ℕ
most_in parts said sell buy =
    price_in said sell
    * sum_by (λ offer. offer.amount)
    (filter
    (λ offer. nat_le (offer.limit * price_in said offer.buy) (price_in said offer.sell * 2 ^ 24))
    (filter (λ offer. (offer.sell == sell) && (offer.buy == buy)) (offers_of parts said)))

-- each pair trades a value within its bounds, and as much value is sold of each asset as is bought
pub record Circulates (n : ℕ) (low high value : ℕ → ℕ → ℕ) : Type 0 where
  pub at_least : (sell buy : ℕ) → sell < n → buy < n → sell ≢ buy → low sell buy ≤ value sell buy
  pub at_most : (sell buy : ℕ) → sell < n → buy < n → sell ≢ buy → value sell buy ≤ high sell buy
  pub balanced : (asset : ℕ) → asset < n →
      sum_below n (λ buy. between value asset buy) ≡ sum_below n (λ sell. between value sell asset)

-- the value that all pairs trade
abbrev pub value_of_all : ℕ → (ℕ → ℕ → ℕ) → ℕ
value_of_all n value = sum_below n (λ sell. sum_below n (λ buy. between value sell buy))

-- ---- a block

pub record IsFair (parts : Parts) (said : Block) : Type 0 where
  -- nobody pays what is not there
  pub covered : (account asset : ℕ) →
      debits said.txs account asset
      ≤ holding_of parts.accounts account asset + credits parts.offers said.txs account asset
  -- each account has what it has to have, and no other one is there
  pub paid : (account : Account) → Contains parts.accounts account → IsPaid parts said account
  pub opened : (id : ℕ) → Contains (created said.txs) id → IsOpened parts said id
  pub no_other : length (ledger_after parts said).accounts ≡ length parts.accounts + length (created said.txs)
  -- the offers that trade are those that are not cancelled and those that are made, and what they do not give stays
  pub stays : (offer : Offer) → Contains parts.offers offer → is_cancelled said offer ≡ false →
      Contains (offers_of parts said) offer
  pub joins : (offer : Offer) → Contains (made said.txs) offer → Contains (offers_of parts said) offer
  pub left : (offer : Offer) → Contains (offers_of parts said) offer → gives_in parts said offer < offer.amount →
      Contains (ledger_after parts said).offers (left_of parts said offer)
  -- of each asset accounts and offers lose what the block says of rounding, and the ledger keeps it
  pub falls : (asset : ℕ) → asset < length parts.prices →
      total_in parts asset ≡ total_in (ledger_after parts said) asset + slice_index said.header.rounding asset
  pub kept : (asset : ℕ) → asset < length parts.prices →
      slice_index (ledger_after parts said).rounding asset
      ≡ slice_index parts.rounding asset + slice_index said.header.rounding asset
  -- an offer trades only at its limit or better, where prices and limits are in units of 2^-24
  pub within_limit : (offer : Offer) → Contains (offers_of parts said) offer → 0 < value_in parts said offer →
      offer.limit * price_in said offer.buy ≤ price_in said offer.sell * 2 ^ 24
  -- and in full, where the rate is better by the margin, unless the block shows by a cut that not all such offers can
  pub in_full : said.header.dropped ≡ None → (offer : Offer) → Contains (offers_of parts said) offer →
      offer.limit * price_in said offer.buy * 2 ^ said.header.mu
      ≤ price_in said offer.sell * 2 ^ 24 * (2 ^ said.header.mu - 1) →
      gives_in parts said offer ≡ offer.amount
  pub cut : (cut : Cut) → said.header.dropped ≡ Some cut → (value : ℕ → ℕ → ℕ) →
      Circulates (length parts.prices) (undropped_low_in parts said) (most_in parts said) value → ⊥
  -- no other values within the bounds come to more
  pub circulates : Circulates (length parts.prices) (low_in parts said) (most_in parts said) (flow_of_block said)
  pub greatest : (value : ℕ → ℕ → ℕ) →
      Circulates (length parts.prices) (low_in parts said) (most_in parts said) value →
      value_of_all (length parts.prices) value ≤ value_of_all (length parts.prices) (flow_of_block said)
  -- an offer gives and gets what its trade is worth, to less than one unit, which it loses
  pub gives : (offer : Offer) → Contains (offers_of parts said) offer →
      value_in parts said offer ≤ price_in said offer.sell * gives_in parts said offer
  pub gives_no_unit_more : (offer : Offer) → Contains (offers_of parts said) offer →
      price_in said offer.sell * gives_in parts said offer < value_in parts said offer + price_in said offer.sell
  pub gets : (offer : Offer) → Contains (offers_of parts said) offer →
      price_in said offer.buy * gets_in parts said offer ≤ value_in parts said offer
  pub gets_no_unit_less : (offer : Offer) → Contains (offers_of parts said) offer →
      value_in parts said offer < price_in said offer.buy * gets_in parts said offer + price_in said offer.buy
  -- of the offers of a pair at most one trades in part
  pub one_in_part : (one other : Offer) → Contains (offers_of parts said) one
      → Contains (offers_of parts said) other → one.sell ≡ other.sell → one.buy ≡ other.buy →
      0 < gives_in parts said one → gives_in parts said one < one.amount →
      0 < gives_in parts said other → gives_in parts said other < other.amount → one ≡ other
  -- what is left is a ledger: ids and keys in order, and each number in its range
  pub ledger : IsLedger (ledger_after parts said)
