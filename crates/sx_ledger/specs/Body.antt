-- Which lists of transactions are the body of a block for a ledger, and what they leave of it before anything trades.
use Rattle.std.specs.Prelude.{◌≡◌, ℕ, zero, suc, ◌+◌, ◌-◌, ◌^◌, ◌≤◌, Bool, IsTrue, not, List, [], ◌∷◌, length, map}
use Rattle.std.specs.Prelude.{replicate, Option, Some, None, Ok, nat_eq, nat_lt, ◌==◌, ◌&&◌, ◌||◌, if◌then◌else◌}
use Rattle.std.specs.List.{All, IsDistinct, filter, filter_map, list_any}
use Rattle.sx_bytes.specs.Grammar.{in_order}
use Rattle.sx_ledger.specs.declared.account.Account.{Account}
use Rattle.sx_ledger.specs.declared.key.Key.{Key}
use Rattle.sx_ledger.specs.declared.offer.Offer.{Offer}
use Rattle.sx_ledger.specs.declared.parts.Parts.{Parts}
use Rattle.sx_ledger.specs.Effects.{debits, credits}
use Rattle.sx_ledger.specs.Ledger.{assets_of, balance_at, most_accounts, most_offers}
use Rattle.sx_ledger.specs.Order.{key_of, offer_before, same_key}
use Rattle.sx_ledger.specs.Static.{static_of}
use Rattle.sx_tx.specs.declared.kind.Kind.{Kind}
use Rattle.sx_tx.specs.declared.kind.Kind.TheVariants as kind
use Rattle.sx_tx.specs.declared.tx.Tx.{Tx}
use Rattle.sx_tx.specs.Window.{Next, open_numbers}

-- a transaction stands before another: by account, then by sequence number
abbrev pub tx_before : Tx → Tx → Bool
tx_before one other =
    nat_lt one.account.0 other.account.0 || ((one.account.0 == other.account.0) && nat_lt one.seq other.seq)

-- ---- what transactions create, make and cancel

abbrev pub created_by : Kind → Option ℕ
created_by (kind.Pay asset to amount) = None
created_by (kind.Create id) = Some id.0
created_by (kind.Offer sell buy limit amount) = None
created_by (kind.Cancel sell buy limit seq) = None

-- the ids of the accounts that are created
abbrev pub created : List Tx → List ℕ
created txs = filter_map (λ tx. created_by tx.kind) txs

abbrev pub made_by : Tx → Kind → Option Offer
made_by tx (kind.Pay asset to amount) = None
made_by tx (kind.Create id) = None
made_by tx (kind.Offer sell buy limit amount) =
    Some (record { sell = sell; buy = buy; limit = limit; account = tx.account; seq = tx.seq; amount = amount })
made_by tx (kind.Cancel sell buy limit seq) = None

-- the offers that are made
abbrev pub made : List Tx → List Offer
made txs = filter_map (λ tx. made_by tx tx.kind) txs

abbrev pub cancelled_by : Tx → Kind → Option Key
cancelled_by tx (kind.Pay asset to amount) = None
cancelled_by tx (kind.Create id) = None
cancelled_by tx (kind.Offer sell buy limit amount) = None
cancelled_by tx (kind.Cancel sell buy limit seq) =
    Some (record { sell = sell; buy = buy; limit = limit; account = tx.account; seq = seq })

-- the keys of the offers that are cancelled
abbrev pub cancelled : List Tx → List Key
cancelled txs = filter_map (λ tx. cancelled_by tx tx.kind) txs

-- ---- which lists are a body

-- what the account of this id holds of an asset, 0 where it is not there
abbrev pub holding_of : List Account → ℕ → ℕ → ℕ
holding_of [] id asset = 0
holding_of (account ∷ accounts) id asset =
    if account.id.0 == id then balance_at asset account else holding_of accounts id asset

-- What an account may spend of an asset in a body of this version: what it holds before, and in version 2 also what
-- the body credits to it.
abbrev pub spendable : ℕ → Parts → List Tx → ℕ → ℕ → ℕ
spendable version parts txs account asset =
    if version == 1 then holding_of parts.accounts account asset
    else holding_of parts.accounts account asset + credits parts.offers txs account asset

-- a body by the rule of this version
pub record IsAdmissibleIn (version : ℕ) (parts : Parts) (txs : List Tx) : Type 0 where
  pub ordered : IsTrue (in_order tx_before None txs)
  pub passes : All (λ tx. static_of parts tx ≡ Ok tt) txs
  pub cancels_once : IsDistinct same_key (cancelled txs)
  pub creates_once : IsDistinct nat_eq (created txs)
  pub accounts_fit : length parts.accounts + length (created txs) ≤ most_accounts
  pub offers_fit : length parts.offers + length (made txs) ≤ most_offers
  pub covered : (account asset : ℕ) → debits txs account asset ≤ spendable version parts txs account asset

-- a body by the rule of version 1: nothing that it credits is spent in it
abbrev pub IsAdmissible : Parts → List Tx → Type 0
IsAdmissible parts txs = IsAdmissibleIn 1 parts txs

-- ---- what is left of an account

-- the account uses this sequence number
abbrev pub uses : List Tx → ℕ → ℕ → Bool
uses txs account seq = list_any (λ tx. (tx.account.0 == account) && (tx.seq == seq)) txs

-- the sequence numbers after `last` that the account uses, as a word of n bits: bit i stands for last + 1 + i
abbrev pub used_below : List Tx → ℕ → ℕ → ℕ → ℕ
used_below txs account last zero = 0
used_below txs account last (suc n) =
    (if uses txs account (last + 1 + n) then 2 ^ n else 0) + used_below txs account last n

abbrev pub used_numbers : List Tx → ℕ → ℕ → ℕ
used_numbers txs account last = used_below txs account last open_numbers

-- the balances from an asset on: what was there and the credits, less the debits
abbrev pub balances_after : List Offer → List Tx → ℕ → ℕ → List ℕ → List ℕ
balances_after offers txs account asset [] = []
balances_after offers txs account asset (balance ∷ balances) =
    ((balance + credits offers txs account asset) - debits txs account asset)
    ∷ balances_after offers txs account (suc asset) balances

abbrev pub account_after : Parts → List Tx → Account → Account
account_after parts txs account = record {
  id = account.id;
  window = Next parts.version account.window (used_numbers txs account.id.0 account.window.last);
  balances = balances_after parts.offers txs account.id.0 0 account.balances;
}

-- an account that is created: it used no sequence number, and holds what it is given
abbrev pub new_account : Parts → List Tx → ℕ → Account
new_account parts txs id = record {
  id = record { 0 = id };
  window = record { last = 0; used = 0 };
  balances = balances_after parts.offers txs id 0 (replicate (assets_of parts) 0);
}

-- ---- the ledger after the body

-- an account put before the first one with a greater id
abbrev pub put_account : Account → List Account → List Account
put_account new [] = new ∷ []
put_account new (account ∷ accounts) =
    if nat_lt new.id.0 account.id.0 then new ∷ account ∷ accounts else account ∷ put_account new accounts

abbrev pub put_accounts : List Account → List Account → List Account
put_accounts [] accounts = accounts
put_accounts (new ∷ others) accounts = put_account new (put_accounts others accounts)

-- an offer put before the first one that it stands before
abbrev pub put_offer : Offer → List Offer → List Offer
put_offer new [] = new ∷ []
put_offer new (offer ∷ offers) = if offer_before new offer then new ∷ offer ∷ offers else offer ∷ put_offer new offers

abbrev pub put_offers : List Offer → List Offer → List Offer
put_offers [] offers = offers
put_offers (new ∷ others) offers = put_offer new (put_offers others offers)

abbrev pub accounts_after : Parts → List Tx → List Account
accounts_after parts txs =
    put_accounts (map (new_account parts txs) (created txs)) (map (account_after parts txs) parts.accounts)

-- the offers that are not cancelled
abbrev pub kept_offers : List Offer → List Tx → List Offer
kept_offers offers txs = filter (λ offer. not (list_any (same_key (key_of offer)) (cancelled txs))) offers

abbrev pub offers_after : Parts → List Tx → List Offer
offers_after parts txs = put_offers (made txs) (kept_offers parts.offers txs)

abbrev pub body_after : Parts → List Tx → Parts
body_after parts txs = record {
  version = parts.version;
  height = parts.height;
  prices = parts.prices;
  rounding = parts.rounding;
  accounts = accounts_after parts txs;
  offers = offers_after parts txs;
}
