-- A fault of an account or of a state is not after the end of the bytes.
use Rattle.std.proofs.Common.{ℕ, zero, suc, ◌-◌, eqb, ltb, not, List, length, Option, Some, None, Ok, refl, arith}
use Rattle.sx_base.specs.Ranges.{most_amount, most_assets, most_seq}
use Rattle.sx_bytes.specs.declared.fault.Form.TheVariants as form
use Rattle.sx_bytes.specs.Cursor.{left}
use Rattle.sx_bytes.specs.Grammar.{between, field_at, many_at, may_follow}
use Rattle.sx_ledger.specs.declared.account.Account.{Account}
use Rattle.sx_ledger.specs.declared.key.Key.{Key}
use Rattle.sx_state.specs.Decoding.{account_at, account_list_at, buy_at, each_at, head_at, last_at, map_at}
use Rattle.sx_state.specs.Decoding.{next_account_at, window_at}
use Rattle.sx_state.specs.Decoding.{next_offer_at, offer_at, offer_list_at, parts_at, price_at, sell_at, state_at}
use Rattle.sx_state.specs.Decoding.{totals_fit, units_field_at}
use Rattle.sx_ledger.specs.Ledger.{assets_of, has_owner, most_accounts, most_height, most_offers, most_version}
use Rattle.sx_ledger.specs.Order.{key_before, key_of}
use Rattle.sx_price.specs.Limits.{least_price, most_price}
use Rattle.sx_bytes.proofs.FaultPlaces.{IsAny, IsOn, Keeps, Stays, either, faults_within, field_stays, many_stays}
use Rattle.sx_bytes.proofs.FaultPlaces.{payload_faults_within, tested, then}
use Rattle.sx_bytes.specs.FaultPlaces.{FaultsWithin, PayloadFaultsWithin}
use Rattle.sx_tx.proofs.FaultPlaces.{amount_stays, id_stays, limit_stays, seq_stays}
use Rattle.sx_state.proofs.EntriesInOrder.{Entry}
use Rattle.sx_tx.specs.TransactionDecoding.{amount_at, id_at, limit_at, seq_at}
use Rattle.sx_tx.specs.Window.{is_map}

-- ---- entries of which each is read with the mark of the one before it

each_stays : {X M : Type 0} (entry : Entry X M) (mark : X → M) → ((before : Option M) → Stays (entry before))
    → (n : ℕ) (before : Option M) → Stays (each_at entry mark n before)
unfolding each_at
each_stays entry mark stays zero before bytes c same place = (same, place)
each_stays entry mark stays (suc n) before bytes c same place =
    then bytes (IsOn bytes) (IsOn bytes) (entry before c) _ (stays before bytes c same place) (λ first on.
    then bytes (IsOn bytes) (IsOn bytes) (each_at entry mark n (Some (mark first.0)) first.1) _
    (each_stays entry mark stays n (Some (mark first.0)) bytes first.1 on.0 on.1) (λ others more. more))

-- ---- accounts

pub units_stay : Stays units_field_at
units_stay = field_stays 8 (between 0 most_amount) form.AmountRange

pub price_stays : Stays price_at
price_stays = field_stays 8 (between least_price most_price) form.PriceRange

map_stays : (version last : ℕ) → Stays (map_at version last)
map_stays version last bytes c same place =
    either bytes (eqb version 1) (Ok (0, c)) (field_at 8 (is_map version last) form.UsedRange c) (same, place)
    (field_stays 8 (is_map version last) form.UsedRange bytes c same place)

window_stays : (version : ℕ) → Stays (window_at version)
window_stays version bytes c same place =
    then bytes (IsOn bytes) (IsOn bytes) (last_at c) _
    (field_stays 8 (between 0 most_seq) form.SeqRange bytes c same place) (λ last on.
    then bytes (IsOn bytes) (IsOn bytes) (map_at version last.0 last.1) _
    (map_stays version last.0 bytes last.1 on.0 on.1) (λ used after. after))

account_stays : (version assets : ℕ) → Stays (account_at version assets)
unfolding account_at
account_stays version assets bytes c same place =
    then bytes (IsOn bytes) (IsOn bytes) (id_at c) _ (id_stays bytes c same place) (λ id on.
    then bytes (IsOn bytes) (IsOn bytes) (window_at version id.1) _ (window_stays version bytes id.1 on.0 on.1)
    (λ window onto.
    then bytes (IsOn bytes) (IsOn bytes) (many_at units_field_at assets window.1) _
    (many_stays units_field_at units_stay assets bytes window.1 onto.0 onto.1) (λ balances after. after)))

next_account_stays : (version assets : ℕ) (before : Option ℕ) → Stays (next_account_at version assets before)
unfolding next_account_at
next_account_stays version assets before bytes c same place =
    then bytes (IsOn bytes) (IsOn bytes) (account_at version assets c) _
    (account_stays version assets bytes c same place) (λ account on.
    tested bytes (IsOn bytes) (may_follow ltb before account.0.id.0) account
    (record { at = c.place; fault = form.Order }) on place)

account_list_stays : (version assets : ℕ) → Stays (account_list_at version assets)
unfolding account_list_at
account_list_stays version assets bytes c same place =
    then bytes (IsOn bytes) (IsOn bytes) (field_at 4 (between 0 most_accounts) form.TooMany c) _
    (field_stays 4 (between 0 most_accounts) form.TooMany bytes c same place) (λ count on.
    each_stays (next_account_at version assets) (λ account. account.id.0) (next_account_stays version assets) count.0
    None bytes count.1 on.0 on.1)

-- ---- offers

pub sell_stays : (assets : ℕ) → Stays (sell_at assets)
sell_stays assets = field_stays 1 (between 0 (assets - 1)) form.AssetRange

pub buy_stays : (assets sell : ℕ) → Stays (buy_at assets sell)
buy_stays assets sell bytes c same place =
    then bytes (IsOn bytes) (IsOn bytes) (field_at 1 (between 0 (assets - 1)) form.AssetRange c) _
    (field_stays 1 (between 0 (assets - 1)) form.AssetRange bytes c same place) (λ buy on.
    tested bytes (IsOn bytes) (not (eqb buy.0 sell)) buy (record { at = c.place; fault = form.AssetRange }) on place)

offer_stays : (assets : ℕ) → Stays (offer_at assets)
unfolding offer_at
offer_stays assets bytes c same place =
    then bytes (IsOn bytes) (IsOn bytes) (sell_at assets c) _ (sell_stays assets bytes c same place) (λ sell a.
    then bytes (IsOn bytes) (IsOn bytes) (buy_at assets sell.0 sell.1) _
    (buy_stays assets sell.0 bytes sell.1 a.0 a.1) (λ buy b.
    then bytes (IsOn bytes) (IsOn bytes) (limit_at buy.1) _ (limit_stays bytes buy.1 b.0 b.1)
    (λ limit d.
    then bytes (IsOn bytes) (IsOn bytes) (id_at limit.1) _ (id_stays bytes limit.1 d.0 d.1) (λ account e.
    then bytes (IsOn bytes) (IsOn bytes) (seq_at account.1) _
    (seq_stays bytes account.1 e.0 e.1) (λ seq f.
    then bytes (IsOn bytes) (IsOn bytes) (amount_at seq.1) _ (amount_stays bytes seq.1 f.0 f.1)
    (λ amount after.
    after))))))

next_offer_stays : (accounts : List Account) (assets : ℕ) (before : Option Key) →
    Stays (next_offer_at accounts assets before)
unfolding next_offer_at
next_offer_stays accounts assets before bytes c same place =
    then bytes (IsOn bytes) (IsOn bytes) (offer_at assets c) _ (offer_stays assets bytes c same place) (λ offer on.
    then bytes (IsOn bytes) (IsOn bytes) _ _
    (tested bytes (IsOn bytes) (may_follow key_before before (key_of offer.0)) offer
    (record { at = c.place; fault = form.Order }) on place) (λ placed after.
    tested bytes (IsOn bytes) (has_owner accounts placed.0) placed (record { at = c.place; fault = form.Owner })
    after place))

offer_list_stays : (accounts : List Account) (assets : ℕ) → Stays (offer_list_at accounts assets)
unfolding offer_list_at
offer_list_stays accounts assets bytes c same place =
    then bytes (IsOn bytes) (IsOn bytes) (field_at 4 (between 0 most_offers) form.TooMany c) _
    (field_stays 4 (between 0 most_offers) form.TooMany bytes c same place) (λ count on.
    each_stays (next_offer_at accounts assets) key_of (next_offer_stays accounts assets) count.0 None bytes count.1 on.0
    on.1)

-- ---- the payload

head_stays : Stays head_at
unfolding head_at
head_stays bytes c same place =
    then bytes (IsOn bytes) (IsOn bytes) (field_at 1 (between 1 most_version) form.Version c) _
    (field_stays 1 (between 1 most_version) form.Version bytes c same place) (λ version a.
    then bytes (IsOn bytes) (IsOn bytes) (field_at 8 (between 0 most_height) form.HeightRange version.1) _
    (field_stays 8 (between 0 most_height) form.HeightRange bytes version.1 a.0 a.1) (λ height b.
    then bytes (IsOn bytes) (IsOn bytes) (field_at 1 (between 1 most_assets) form.AssetCount height.1) _
    (field_stays 1 (between 1 most_assets) form.AssetCount bytes height.1 b.0 b.1) (λ assets d.
    then bytes (IsOn bytes) (IsOn bytes) (many_at price_at assets.0 assets.1) _
    (many_stays price_at price_stays assets.0 bytes assets.1 d.0 d.1) (λ prices e.
    then bytes (IsOn bytes) (IsOn bytes) (many_at units_field_at assets.0 prices.1) _
    (many_stays units_field_at units_stay assets.0 bytes prices.1 e.0 e.1) (λ rounding after. after)))))

parts_stay : Stays parts_at
unfolding parts_at
parts_stay bytes c same place =
    then bytes (IsOn bytes) (IsOn bytes) (head_at c) _ (head_stays bytes c same place) (λ head a.
    then bytes (IsOn bytes) (IsOn bytes) (account_list_at head.0.0 (length head.0.2) head.1) _
    (account_list_stays head.0.0 (length head.0.2) bytes head.1 a.0 a.1) (λ accounts b.
    then bytes (IsOn bytes) (IsOn bytes) (offer_list_at accounts.0 (length head.0.2) accounts.1) _
    (offer_list_stays accounts.0 (length head.0.2) bytes accounts.1 b.0 b.1) (λ offers after. after)))

state_stays : (bytes : List ℕ) → Keeps bytes IsAny (state_at bytes)
unfolding state_at
state_stays bytes =
    then bytes (IsOn bytes) IsAny (parts_at (record { bytes = bytes; place = 0 })) _
    (parts_stay bytes (record { bytes = bytes; place = 0 }) refl (omega arith)) (λ parts on.
    then bytes (IsOn bytes) IsAny _ _
    (tested bytes (IsOn bytes) (totals_fit parts.0 (assets_of parts.0)) parts (record { at = 0; fault = form.Total }) on
    (omega arith)) (λ fitting after.
    tested bytes IsAny (eqb (left fitting.1) 0) fitting.0 (record { at = fitting.1.place; fault = form.Rest }) tt
    after.1))

-- ---- the laws

pub account_within : (version assets : ℕ) → FaultsWithin (account_at version assets)
account_within version assets = faults_within (account_at version assets) (account_stays version assets)

pub state_within : PayloadFaultsWithin state_at
state_within = payload_faults_within state_at state_stays
