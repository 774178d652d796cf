-- A fault of a proof is not after the end of its payload.
use Rattle.std.proofs.Common.{ℕ, ◌-◌, eqb, List, Ok, refl, arith}
use Rattle.sx_base.specs.Ranges.{most_assets, most_seq}
use Rattle.sx_block.specs.Decoding.{digest_at}
use Rattle.sx_bytes.specs.declared.fault.Form.TheVariants as form
use Rattle.sx_bytes.specs.Cursor.{left}
use Rattle.sx_bytes.specs.FaultPlaces.{PayloadFaultsWithin}
use Rattle.sx_bytes.specs.Grammar.{between, field_at, many_at}
use Rattle.sx_bytes.proofs.FaultPlaces.{IsAny, IsOn, Keeps, Stays, either, field_stays, many_stays}
use Rattle.sx_bytes.proofs.FaultPlaces.{payload_faults_within, raw_stays, tested, then}
use Rattle.sx_commit.specs.Commitments.{levels, most_places}
use Rattle.sx_commit.specs.Decoding.{claim_at, fields_at, proof_at}
use Rattle.sx_state.specs.Decoding.{account_at, last_at, map_at, units_field_at, window_at}
use Rattle.sx_ledger.specs.Ledger.{most_version}
use Rattle.sx_state.proofs.FaultPlaces.{units_stay}
use Rattle.sx_tx.specs.TransactionDecoding.{id_at}
use Rattle.sx_tx.specs.Window.{is_map}
use Rattle.sx_tx.proofs.FaultPlaces.{id_stays}

-- ---- the account

map_stays : (version last : ℕ) → Stays (map_at version last)
map_stays version last bytes c same place =
    either bytes (eqb version 1) (Ok (0, c)) (field_at 8 (is_map version last) form.UsedRange c) (same, place)
    (field_stays 8 (is_map version last) form.UsedRange bytes c same place)

window_stays : (version : ℕ) → Stays (window_at version)
window_stays version bytes c same place =
    then bytes (IsOn bytes) (IsOn bytes) (last_at c) _
    (field_stays 8 (between 0 most_seq) form.SeqRange bytes c same place) (λ last on.
    then bytes (IsOn bytes) (IsOn bytes) (map_at version last.0 last.1) _
    (map_stays version last.0 bytes last.1 on.0 on.1) (λ used after. after))

account_stays : (version assets : ℕ) → Stays (account_at version assets)
unfolding account_at
account_stays version assets bytes c same place =
    then bytes (IsOn bytes) (IsOn bytes) (id_at c) _ (id_stays bytes c same place) (λ id on.
    then bytes (IsOn bytes) (IsOn bytes) (window_at version id.1) _ (window_stays version bytes id.1 on.0 on.1)
    (λ window onto.
    then bytes (IsOn bytes) (IsOn bytes) (many_at units_field_at assets window.1) _
    (many_stays units_field_at units_stay assets bytes window.1 onto.0 onto.1) (λ balances after. after)))

-- ---- what stands around it

digest_stays : Stays digest_at
digest_stays = raw_stays 32

fields_stay : Stays fields_at
unfolding fields_at
fields_stay bytes c same place =
    then bytes (IsOn bytes) (IsOn bytes) (field_at 1 (between 1 most_version) form.Version c) _
    (field_stays 1 (between 1 most_version) form.Version bytes c same place) (λ version a.
    then bytes (IsOn bytes) (IsOn bytes) (field_at 1 (between 1 most_assets) form.AssetCount version.1) _
    (field_stays 1 (between 1 most_assets) form.AssetCount bytes version.1 a.0 a.1) (λ assets b.
    then bytes (IsOn bytes) (IsOn bytes) (field_at 4 (between 0 (most_places - 1)) form.PlaceRange assets.1) _
    (field_stays 4 (between 0 (most_places - 1)) form.PlaceRange bytes assets.1 b.0 b.1) (λ spot d.
    then bytes (IsOn bytes) (IsOn bytes) (account_at version.0 assets.0 spot.1) _
    (account_stays version.0 assets.0 bytes spot.1 d.0 d.1) (λ account e.
    then bytes (IsOn bytes) (IsOn bytes) (many_at digest_at levels account.1) _
    (many_stays digest_at digest_stays levels bytes account.1 e.0 e.1) (λ siblings after. after)))))

claim_stays : Stays claim_at
unfolding claim_at
claim_stays bytes c same place =
    then bytes (IsOn bytes) (IsOn bytes) (digest_at c) _ (digest_stays bytes c same place) (λ root a.
    then bytes (IsOn bytes) (IsOn bytes) (fields_at root.1) _ (fields_stay bytes root.1 a.0 a.1)
    (λ proof after. after))

-- ---- the payload

proof_within : (bytes : List ℕ) → Keeps bytes IsAny (proof_at bytes)
unfolding proof_at
proof_within bytes =
    then bytes (IsOn bytes) IsAny (claim_at (record { bytes = bytes; place = 0 })) _
    (claim_stays bytes (record { bytes = bytes; place = 0 }) refl (omega arith)) (λ claim on.
    tested bytes IsAny (eqb (left claim.1) 0) claim.0 (record { at = claim.1.place; fault = form.Rest }) tt on.1)

pub faults_within : PayloadFaultsWithin proof_at
faults_within = payload_faults_within proof_at proof_within
