-- A fault of a transaction, or of a list of them, is not after the end of the bytes.
use Rattle.std.proofs.Common.{ℕ, true, eqb, List, refl, arith}
use Rattle.sx_bytes.specs.declared.fault.Form.TheVariants as form
use Rattle.sx_bytes.specs.Cursor.{left}
use Rattle.sx_bytes.specs.FaultPlaces.{FaultsWithin, PayloadFaultsWithin}
use Rattle.sx_bytes.specs.Grammar.{between, field_at}
use Rattle.sx_bytes.proofs.FaultPlaces.{IsAny, IsOn, Keeps, Stays, either, field_stays, many_stays, tested, then}
use Rattle.sx_bytes.proofs.FaultPlaces.{faults_within, payload_faults_within}
use Rattle.sx_tx.specs.TransactionDecoding.{amount_at, asset_at, cancel_at, candidates_at, create_at}
use Rattle.sx_tx.specs.TransactionDecoding.{fields_at as kind_fields_at, id_at, kind_at, limit_at, list_at, offer_at}
use Rattle.sx_tx.specs.TransactionDecoding.{pay_at, seq_at, terms_at, tx_at}
use Rattle.sx_tx.specs.Transactions.{most_transactions}

pub id_stays : Stays id_at
id_stays = field_stays 8 (λ _. true) form.Short

asset_stays : Stays asset_at
asset_stays = field_stays 1 _ form.AssetRange

pub limit_stays : Stays limit_at
limit_stays = field_stays 8 _ form.LimitRange

pub amount_stays : Stays amount_at
amount_stays = field_stays 8 _ form.AmountRange

pub seq_stays : Stays seq_at
seq_stays = field_stays 8 _ form.SeqRange

terms_stay : Stays terms_at
unfolding terms_at
terms_stay bytes c same place =
    then bytes (IsOn bytes) (IsOn bytes) (asset_at c) _ (asset_stays bytes c same place) (λ sell a.
    then bytes (IsOn bytes) (IsOn bytes) (asset_at sell.1) _ (asset_stays bytes sell.1 a.0 a.1) (λ buy b.
    then bytes (IsOn bytes) (IsOn bytes) (limit_at buy.1) _ (limit_stays bytes buy.1 b.0 b.1)
    (λ limit after. after)))

pay_stays : Stays pay_at
unfolding pay_at
pay_stays bytes c same place =
    then bytes (IsOn bytes) (IsOn bytes) (id_at c) _ (id_stays bytes c same place) (λ to a.
    then bytes (IsOn bytes) (IsOn bytes) (asset_at to.1) _ (asset_stays bytes to.1 a.0 a.1) (λ asset b.
    then bytes (IsOn bytes) (IsOn bytes) (amount_at asset.1) _ (amount_stays bytes asset.1 b.0 b.1)
    (λ amount after. after)))

create_stays : Stays create_at
unfolding create_at
create_stays bytes c same place =
    then bytes (IsOn bytes) (IsOn bytes) (id_at c) _ (id_stays bytes c same place) (λ id after. after)

offer_stays : Stays offer_at
unfolding offer_at
offer_stays bytes c same place =
    then bytes (IsOn bytes) (IsOn bytes) (terms_at c) _ (terms_stay bytes c same place) (λ terms a.
    then bytes (IsOn bytes) (IsOn bytes) (amount_at terms.1) _ (amount_stays bytes terms.1 a.0 a.1)
    (λ amount after. after))

cancel_stays : Stays cancel_at
unfolding cancel_at
cancel_stays bytes c same place =
    then bytes (IsOn bytes) (IsOn bytes) (terms_at c) _ (terms_stay bytes c same place) (λ terms a.
    then bytes (IsOn bytes) (IsOn bytes) (seq_at terms.1) _ (seq_stays bytes terms.1 a.0 a.1) (λ seq after. after))

kind_fields_stay : (byte : ℕ) → Stays (kind_fields_at byte)
kind_fields_stay byte bytes c same place =
    either bytes (eqb byte 1) _ _ (pay_stays bytes c same place) (
    either bytes (eqb byte 2) _ _ (create_stays bytes c same place) (
    either bytes (eqb byte 3) _ _ (offer_stays bytes c same place) (cancel_stays bytes c same place)))

kind_stays : Stays kind_at
unfolding kind_at
kind_stays bytes c same place =
    then bytes (IsOn bytes) (IsOn bytes) (field_at 1 (between 1 4) form.Tag c) _
    (field_stays 1 (between 1 4) form.Tag bytes c same place)
    (λ byte on. kind_fields_stay byte.0 bytes byte.1 on.0 on.1)

pub tx_stays : Stays tx_at
unfolding tx_at
tx_stays bytes c same place =
    then bytes (IsOn bytes) (IsOn bytes) (id_at c) _ (id_stays bytes c same place) (λ account a.
    then bytes (IsOn bytes) (IsOn bytes) (seq_at account.1) _ (seq_stays bytes account.1 a.0 a.1) (λ seq b.
    then bytes (IsOn bytes) (IsOn bytes) (kind_at seq.1) _ (kind_stays bytes seq.1 b.0 b.1) (λ kind after. after)))

list_stays : Stays list_at
unfolding list_at
list_stays bytes c same place =
    then bytes (IsOn bytes) (IsOn bytes) (field_at 4 (between 0 most_transactions) form.TooMany c) _
    (field_stays 4 (between 0 most_transactions) form.TooMany bytes c same place) (λ count on.
    many_stays tx_at tx_stays count.0 bytes count.1 on.0 on.1)

candidates_stay : (bytes : List ℕ) → Keeps bytes IsAny (candidates_at bytes)
unfolding candidates_at
candidates_stay bytes =
    then bytes (IsOn bytes) IsAny (list_at (record { bytes = bytes; place = 0 })) _
    (list_stays bytes (record { bytes = bytes; place = 0 }) refl (omega arith)) (λ txs on.
    tested bytes IsAny (eqb (left txs.1) 0) txs.0 (record { at = txs.1.place; fault = form.Rest }) tt on.1)

-- ---- the laws

pub tx_within : FaultsWithin tx_at
tx_within = faults_within tx_at tx_stays

pub list_within : FaultsWithin list_at
list_within = faults_within list_at list_stays

pub candidates_within : PayloadFaultsWithin candidates_at
candidates_within = payload_faults_within candidates_at candidates_stay
