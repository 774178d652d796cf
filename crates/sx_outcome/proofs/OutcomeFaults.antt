-- A fault of outcomes is not after the end of their payload.
use Rattle.std.proofs.Common.{ℕ, ◌+◌, eqb, List, refl, arith}
use Rattle.sx_base.specs.Ranges.{most_amount}
use Rattle.sx_bytes.specs.declared.fault.Form.TheVariants as form
use Rattle.sx_bytes.specs.Cursor.{left}
use Rattle.sx_bytes.specs.Grammar.{between, field_at}
use Rattle.sx_outcome.specs.OutcomeDecoding.{fields_at, outcome_at, outcome_list_at, outcomes_at, overdraft_at}
use Rattle.sx_outcome.specs.OutcomeDecoding.{static_at}
use Rattle.sx_outcome.specs.Outcomes.{most_outcomes}
use Rattle.sx_bytes.specs.FaultPlaces.{FaultsWithin, PayloadFaultsWithin}
use Rattle.sx_bytes.proofs.FaultPlaces.{IsAny, IsOn, Keeps, Stays, either, field_stays, many_stays, tested, then}
use Rattle.sx_bytes.proofs.FaultPlaces.{faults_within, payload_faults_within}

static_stays : Stays static_at
unfolding static_at
static_stays bytes c same place =
    then bytes (IsOn bytes) (IsOn bytes) (field_at 1 (between 1 10) form.Tag c) _
    (field_stays 1 (between 1 10) form.Tag bytes c same place) (λ number on. on)

overdraft_stays : Stays overdraft_at
unfolding overdraft_at
overdraft_stays bytes c same place =
    then bytes (IsOn bytes) (IsOn bytes) (field_at 8 (between 0 most_amount) form.AmountRange c) _
    (field_stays 8 (between 0 most_amount) form.AmountRange bytes c same place) (λ seen on.
    then bytes (IsOn bytes) (IsOn bytes) (field_at 8 (between (seen.0 + 1) most_amount) form.AmountRange seen.1) _
    (field_stays 8 (between (seen.0 + 1) most_amount) form.AmountRange bytes seen.1 on.0 on.1) (λ need after. after))

fields_stay : (number : ℕ) → Stays (fields_at number)
fields_stay number bytes c same place =
    either bytes (eqb number 0) _ _ (same, place) (
    either bytes (eqb number 1) _ _ (static_stays bytes c same place) (
    either bytes (eqb number 2) _ _ (same, place) (
    either bytes (eqb number 3) _ _ (same, place) (
    either bytes (eqb number 4) _ _ (same, place) (overdraft_stays bytes c same place)))))

outcome_stays : Stays outcome_at
unfolding outcome_at
outcome_stays bytes c same place =
    then bytes (IsOn bytes) (IsOn bytes) (field_at 1 (between 0 5) form.Tag c) _
    (field_stays 1 (between 0 5) form.Tag bytes c same place)
    (λ number on. fields_stay number.0 bytes number.1 on.0 on.1)

list_stays : Stays outcome_list_at
unfolding outcome_list_at
list_stays bytes c same place =
    then bytes (IsOn bytes) (IsOn bytes) (field_at 4 (between 0 most_outcomes) form.TooMany c) _
    (field_stays 4 (between 0 most_outcomes) form.TooMany bytes c same place) (λ count on.
    many_stays outcome_at outcome_stays count.0 bytes count.1 on.0 on.1)

outcomes_stay : (bytes : List ℕ) → Keeps bytes IsAny (outcomes_at bytes)
unfolding outcomes_at
outcomes_stay bytes =
    then bytes (IsOn bytes) IsAny (outcome_list_at (record { bytes = bytes; place = 0 })) _
    (list_stays bytes (record { bytes = bytes; place = 0 }) refl (omega arith)) (λ outcomes on.
    tested bytes IsAny (eqb (left outcomes.1) 0) outcomes.0 (record { at = outcomes.1.place; fault = form.Rest }) tt
    on.1)

pub outcomes_within : FaultsWithin outcome_list_at
outcomes_within = faults_within outcome_list_at list_stays

pub outcome_payload_within : PayloadFaultsWithin outcomes_at
outcome_payload_within = payload_faults_within outcomes_at outcomes_stay
