-- Reading a state from left to right, with the first fault.
use Rattle.std.specs.Prelude.{ℕ, zero, suc, ◌-◌, Bool, true, not, List, [], ◌∷◌, length, Option, Some, None, Result}
use Rattle.std.specs.Prelude.{Ok, Err, nat_lt, nat_le, ◌==◌, ◌&&◌, if◌then◌else◌}
use Rattle.sx_base.specs.Ranges.{most_amount, most_assets, most_seq}
use Rattle.sx_bytes.specs.declared.fault.Form.TheVariants as form
use Rattle.sx_bytes.specs.declared.fault.FormFault.{FormFault}
use Rattle.sx_bytes.specs.Cursor.{Cursor, left}
use Rattle.sx_bytes.specs.Grammar.{◌>>=◌, between, field_at, many_at, may_follow}
use Rattle.sx_ledger.specs.declared.account.Account.{Account}
use Rattle.sx_ledger.specs.declared.key.Key.{Key}
use Rattle.sx_ledger.specs.declared.offer.Offer.{Offer}
use Rattle.sx_ledger.specs.declared.parts.Parts.{Parts}
use Rattle.sx_ledger.specs.Ledger.{assets_of, has_owner, most_accounts, most_height, most_offers, most_version}
use Rattle.sx_ledger.specs.Ledger.{total_of}
use Rattle.sx_ledger.specs.Order.{key_of, key_before}
use Rattle.sx_price.specs.Limits.{least_price, most_price}
use Rattle.sx_tx.specs.TransactionDecoding.{id_at, seq_at, amount_at, limit_at}
use Rattle.sx_tx.specs.declared.window.Window.{Window}
use Rattle.sx_tx.specs.Window.{is_map}

abbrev pub price_at : Cursor → Result (ℕ × Cursor) FormFault
price_at = field_at 8 (between least_price most_price) form.PriceRange

-- a balance, or the rounding of an asset
abbrev pub units_field_at : Cursor → Result (ℕ × Cursor) FormFault
units_field_at = field_at 8 (between 0 most_amount) form.AmountRange

-- an entry that passes a test, which is made once the whole entry is read
abbrev pub guarded : {X : Type 0} → Bool → X × Cursor → FormFault → Result (X × Cursor) FormFault
guarded passes entry fault = if passes then Ok entry else Err fault

-- a number of entries, each read with the mark of the one before it in view
unfoldable pub each_at : {X M : Type 0} → (Option M → Cursor → Result (X × Cursor) FormFault) → (X → M) → ℕ → Option M
    → Cursor → Result (List X × Cursor) FormFault
each_at entry mark zero before c = Ok ([], c)
each_at entry mark (suc n) before c = do
  first ← entry before c
  others ← each_at entry mark n (Some (mark first.0)) first.1
  Ok (first.0 ∷ others.0, others.1)

-- ---- accounts

-- the greatest sequence number up to which an account used all, 0 where it used none
abbrev pub last_at : Cursor → Result (ℕ × Cursor) FormFault
last_at = field_at 8 (between 0 most_seq) form.SeqRange

-- the map of the sequence numbers that were used above the last one, which version 1 does not have
abbrev pub map_at : ℕ → ℕ → Cursor → Result (ℕ × Cursor) FormFault
map_at version last c =
    if version == 1 then Ok (0, c) else field_at 8 (is_map version last) form.UsedRange c

abbrev pub window_at : ℕ → Cursor → Result (Window × Cursor) FormFault
window_at version c = do
  last ← last_at c
  used ← map_at version last.0 last.1
  Ok (record { last = last.0; used = used.0 }, used.1)

unfoldable pub account_at : ℕ → ℕ → Cursor → Result (Account × Cursor) FormFault
account_at version assets c = do
  id ← id_at c
  window ← window_at version id.1
  balances ← many_at units_field_at assets window.1
  Ok (record { id = record { 0 = id.0 }; window = window.0; balances = balances.0 }, balances.1)

-- an account that comes after the one before it, of which the id is known
unfoldable pub next_account_at : ℕ → ℕ → Option ℕ → Cursor → Result (Account × Cursor) FormFault
next_account_at version assets before c = do
  account ← account_at version assets c
  guarded (may_follow nat_lt before account.0.id.0) account (record { at = c.place; fault = form.Order })

abbrev pub accounts_at : ℕ → ℕ → ℕ → Option ℕ → Cursor → Result (List Account × Cursor) FormFault
accounts_at version assets = each_at (next_account_at version assets) (λ account. account.id.0)

-- ---- offers

-- what is sold, one of `assets` assets
abbrev pub sell_at : ℕ → Cursor → Result (ℕ × Cursor) FormFault
sell_at assets = field_at 1 (between 0 (assets - 1)) form.AssetRange

-- what is bought, another one
abbrev pub buy_at : ℕ → ℕ → Cursor → Result (ℕ × Cursor) FormFault
buy_at assets sell c = do
  buy ← field_at 1 (between 0 (assets - 1)) form.AssetRange c
  guarded (not (buy.0 == sell)) buy (record { at = c.place; fault = form.AssetRange })

unfoldable pub offer_at : ℕ → Cursor → Result (Offer × Cursor) FormFault
offer_at assets c = do
  sell ← sell_at assets c
  buy ← buy_at assets sell.0 sell.1
  limit ← limit_at buy.1
  account ← id_at limit.1
  seq ← seq_at account.1
  amount ← amount_at seq.1
  Ok (
    record {
      sell = sell.0;
      buy = buy.0;
      limit = limit.0;
      account = record { 0 = account.0 };
      seq = seq.0;
      amount = amount.0;
    },
    amount.1,
  )

-- an offer that comes after the one before it, of which the key is known, whoever it is of
unfoldable pub placed_offer_at : ℕ → Option Key → Cursor → Result (Offer × Cursor) FormFault
placed_offer_at assets before c = do
  offer ← offer_at assets c
  guarded (may_follow key_before before (key_of offer.0)) offer (record { at = c.place; fault = form.Order })

-- an offer that comes after the one before it, of which the key is known, by one of these accounts
unfoldable pub next_offer_at : List Account → ℕ → Option Key → Cursor → Result (Offer × Cursor) FormFault
next_offer_at accounts assets before c = do
  offer ← offer_at assets c
  placed ← guarded (may_follow key_before before (key_of offer.0)) offer (record { at = c.place; fault = form.Order })
  guarded (has_owner accounts placed.0) placed (record { at = c.place; fault = form.Owner })

-- offers in order, whoever they are of
abbrev pub placed_offers_at : ℕ → ℕ → Option Key → Cursor → Result (List Offer × Cursor) FormFault
placed_offers_at assets = each_at (placed_offer_at assets) key_of

abbrev pub offers_at : List Account → ℕ → ℕ → Option Key → Cursor → Result (List Offer × Cursor) FormFault
offers_at accounts assets = each_at (next_offer_at accounts assets) key_of

-- ---- the payload

-- what stands before the accounts: the version, the height, the prices and the rounding
unfoldable pub head_at : Cursor → Result ((ℕ × ℕ × List ℕ × List ℕ) × Cursor) FormFault
head_at c = do
  version ← field_at 1 (between 1 most_version) form.Version c
  height ← field_at 8 (between 0 most_height) form.HeightRange version.1
  assets ← field_at 1 (between 1 most_assets) form.AssetCount height.1
  prices ← many_at price_at assets.0 assets.1
  rounding ← many_at units_field_at assets.0 prices.1
  Ok ((version.0, height.0, prices.0, rounding.0), rounding.1)

-- the number of accounts, and the accounts
unfoldable pub account_list_at : ℕ → ℕ → Cursor → Result (List Account × Cursor) FormFault
account_list_at version assets c = do
  count ← field_at 4 (between 0 most_accounts) form.TooMany c
  accounts_at version assets count.0 None count.1

-- the number of offers, and the offers
unfoldable pub offer_list_at : List Account → ℕ → Cursor → Result (List Offer × Cursor) FormFault
offer_list_at accounts assets c = do
  count ← field_at 4 (between 0 most_offers) form.TooMany c
  offers_at accounts assets count.0 None count.1

-- the fields of a payload
unfoldable pub parts_at : Cursor → Result (Parts × Cursor) FormFault
parts_at c = do
  head ← head_at c
  accounts ← account_list_at head.0.0 (length head.0.2) head.1
  offers ← offer_list_at accounts.0 (length head.0.2) accounts.1
  Ok (
    record {
      version = head.0.0;
      height = head.0.1;
      prices = head.0.2;
      rounding = head.0.3;
      accounts = accounts.0;
      offers = offers.0;
    },
    offers.1,
  )

-- the total of each of the first assets is in range
unfoldable pub totals_fit : Parts → ℕ → Bool
totals_fit parts zero = true
totals_fit parts (suc n) = totals_fit parts n && nat_le (total_of parts n) most_amount

-- a whole payload, from its first byte: the totals are tested after the last field
unfoldable pub state_at : List ℕ → Result Parts FormFault
state_at bytes = do
  parts ← parts_at (record { bytes = bytes; place = 0 })
  fitting ← guarded (totals_fit parts.0 (assets_of parts.0)) parts (record { at = 0; fault = form.Total })
  if left fitting.1 == 0 then Ok fitting.0 else Err (record { at = fitting.1.place; fault = form.Rest })
