-- A fault of a script is not after the end of their payload.
use Rattle.std.proofs.Common.{ℕ, eqb, ltb, List, refl, arith}
use Rattle.sx_bytes.specs.declared.fault.Form.TheVariants as form
use Rattle.sx_bytes.specs.Cursor.{left}
use Rattle.sx_bytes.specs.Grammar.{between, field_at, many_at}
use Rattle.sx_outcome.specs.ScriptDecoding.{script_at, script_fields_at, turn_at}
use Rattle.sx_outcome.specs.Scripts.{most_actors, most_turns}
use Rattle.sx_bytes.specs.FaultPlaces.{FaultsWithin, PayloadFaultsWithin}
use Rattle.sx_bytes.proofs.FaultPlaces.{IsAny, IsOn, Keeps, Stays, field_stays, many_stays, tested, then}
use Rattle.sx_bytes.proofs.FaultPlaces.{faults_within, payload_faults_within}

turn_stays : (actors : ℕ) → Stays (turn_at actors)
unfolding turn_at
turn_stays actors = field_stays 1 (λ turn. ltb turn actors) form.Actor

fields_stay : Stays script_fields_at
unfolding script_fields_at
fields_stay bytes c same place =
    then bytes (IsOn bytes) (IsOn bytes) (field_at 1 (between 1 most_actors) form.Actor c) _
    (field_stays 1 (between 1 most_actors) form.Actor bytes c same place) (λ actors a.
    then bytes (IsOn bytes) (IsOn bytes) (field_at 4 (between 0 most_turns) form.TooMany actors.1) _
    (field_stays 4 (between 0 most_turns) form.TooMany bytes actors.1 a.0 a.1) (λ count b.
    then bytes (IsOn bytes) (IsOn bytes) (many_at (turn_at actors.0) count.0 count.1) _
    (many_stays (turn_at actors.0) (turn_stays actors.0) count.0 bytes count.1 b.0 b.1) (λ turns after. after)))

script_stays : (bytes : List ℕ) → Keeps bytes IsAny (script_at bytes)
unfolding script_at
script_stays bytes =
    then bytes (IsOn bytes) IsAny (script_fields_at (record { bytes = bytes; place = 0 })) _
    (fields_stay bytes (record { bytes = bytes; place = 0 }) refl (omega arith)) (λ script on.
    tested bytes IsAny (eqb (left script.1) 0) script.0 (record { at = script.1.place; fault = form.Rest }) tt on.1)

pub script_within : FaultsWithin script_fields_at
script_within = faults_within script_fields_at fields_stay

pub script_payload_within : PayloadFaultsWithin script_at
script_payload_within = payload_faults_within script_at script_stays
