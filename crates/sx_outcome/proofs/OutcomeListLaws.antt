-- Decoding a list of outcomes, or a payload of them, inverts encoding it.
use Rattle.std.proofs.Common.{◌≡◌, ℕ, ◌*◌, ◌≤◌, cond, eqb, List, [], ◌∷◌, ◌++◌, length, Result, Ok, Err, refl, sym}
use Rattle.std.proofs.Common.{ap, subst, ◌∙◌, append_assoc, arith}
use Rattle.std.specs.Prelude.{IfOk}
use Rattle.std.specs.List.{flat_map}
use Rattle.std.proofs.lemmas.Bool.{eqb-true, eq-eqb}
use Rattle.std.proofs.lemmas.List.{append-nil, nil_from_length, length-append}
use Rattle.std.proofs.lemmas.List.Elements.{All-from_recursion, recursion_from_All}
use Rattle.byteorder.specs.Endian.{big_bytes}
use Rattle.sx_bytes.specs.declared.fault.Form.TheVariants as form
use Rattle.sx_bytes.specs.declared.fault.FormFault.{FormFault}
use Rattle.sx_bytes.specs.declared.fault.ReadError.{ReadError}
use Rattle.sx_bytes.specs.Field.{AreBytes}
use Rattle.sx_bytes.specs.Cursor.{Cursor, rest, left}
use Rattle.sx_bytes.specs.Grammar.{Gives, between, field_at, many_at}
use Rattle.sx_bytes.proofs.Grammar.{bind_ok, guard_ok, length-rest, Takes, Takes-then, many_takes, many_again}
use Rattle.sx_bytes.proofs.DecodingSteps.{bytes_after, range_takes, range_again, again_then}
use Rattle.sx_bytes.proofs.Parts.{TakesAll, ReadsAgain}
use Rattle.sx_outcome.specs.declared.outcome.Outcome.{Outcome}
use Rattle.sx_outcome.specs.Laws.{OutcomesFit}
use Rattle.sx_outcome.specs.OutcomeDecoding.{outcome_at, outcome_list_at, outcomes_at}
use Rattle.sx_outcome.specs.Outcomes.{most_outcomes, outcome_bytes, outcomes_bytes, IsOutcome, AreOutcomes}
use Rattle.sx_outcome.proofs.OutcomeLaws.{outcome_takes, outcome_again, length_most}

pub list_takes : TakesAll outcome_list_at outcomes_bytes AreOutcomes
unfolding outcome_list_at
list_takes c next x bytes e =
    let n =
    bind_ok (field_at 4 (between 0 most_outcomes) form.TooMany c) (λ count. many_at outcome_at count.0 count.1)
    (x, next) e in
    let t0 = range_takes 4 0 most_outcomes form.TooMany c n.0.1 n.0.0 bytes n.1 in
    let bytes1 = bytes_after c n.0.1 (big_bytes 4 n.0.0) t0.0 bytes in
    let t1 = many_takes outcome_at outcome_bytes IsOutcome outcome_takes n.0.0 n.0.1 next x bytes1 n.2 in
    let count : Takes c (big_bytes 4 (length x)) n.0.1 =
    subst (λ (m : ℕ). Takes c (big_bytes 4 m) n.0.1) (sym t1.1) t0.0 in
    let few : length x ≤ most_outcomes = subst (λ (m : ℕ). m ≤ most_outcomes) (sym t1.1) t0.2 in (
      Takes-then c n.0.1 next (big_bytes 4 (length x)) (flat_map outcome_bytes x) count t1.0,
      record
          { few = few; each = All-from_recursion IsOutcome x t1.2 },
    )

pub list_again : ReadsAgain outcome_list_at outcomes_bytes AreOutcomes
unfolding outcome_list_at
list_again c x after is within e =
    let few = is.few in
    let text = flat_map outcome_bytes x ++ after in
    let a =
    range_again 4 0 most_outcomes form.TooMany c (length x) text (omega arith) (omega arith) few within
    (e ∙ append_assoc (big_bytes 4 (length x)) (flat_map outcome_bytes x) after) in
    let t =
    many_again outcome_at outcome_bytes IsOutcome outcome_again x a.next after
    (recursion_from_All IsOutcome x is.each) a.within a.rest_is in
    again_then (field_at 4 (between 0 most_outcomes) form.TooMany c) (λ count. many_at outcome_at count.0 count.1) c
    (length x) x text after a t

-- ---- a whole payload

abbrev start : List ℕ → Cursor
start bytes = record { bytes = bytes; place = 0 }

abbrev at_end : List Outcome × Cursor → Result (List Outcome) FormFault
at_end x = cond (eqb (left x.1) 0) (Ok x.0) (Err (record { at = x.1.place; fault = form.Rest }))

outcomes_take : (bytes : List ℕ) (x : List Outcome) → AreBytes bytes → outcomes_at bytes ≡ Ok x
    → AreOutcomes x × (bytes ≡ outcomes_bytes x)
unfolding outcomes_at
outcomes_take bytes x are e =
    let a = bind_ok (outcome_list_at (start bytes)) at_end x e in
    let t = list_takes (start bytes) a.0.1 a.0.0 are a.1 in
    let g = guard_ok (eqb (left a.0.1) 0) a.0.0 x (record { at = a.0.1.place; fault = form.Rest }) a.2 in
    let ended : left a.0.1 ≡ 0 = eqb-true (left a.0.1) 0 g.0 in
    let none : rest a.0.1 ≡ [] = nil_from_length (rest a.0.1) (length-rest a.0.1 ∙ ended) in
    let text : bytes ≡ outcomes_bytes a.0.0 =
    t.0.parts ∙ ap (λ (r : List ℕ). outcomes_bytes a.0.0 ++ r) none ∙ append-nil (outcomes_bytes a.0.0) in
    subst (λ (y : List Outcome). AreOutcomes y × (bytes ≡ outcomes_bytes y)) g.1 (t.1, text)

outcomes_again : (x : List Outcome) → AreOutcomes x → outcomes_at (outcomes_bytes x) ≡ Ok x
unfolding outcomes_at
outcomes_again x is =
    let a = list_again (start (outcomes_bytes x)) x [] is (omega arith) (sym (append-nil (outcomes_bytes x))) in
    let ended : left a.next ≡ 0 = sym (length-rest a.next) ∙ ap length a.rest_is in
    rw a.is (rw (eq-eqb (left a.next) 0 ended) refl)

-- ---- what the reader answers

pub found_in : (bytes : List ℕ) (r : Result (List Outcome) ReadError) → AreBytes bytes
    → Gives (λ x. x) r (outcomes_at bytes) → IfOk r (λ x. AreOutcomes x × (bytes ≡ outcomes_bytes x))
found_in bytes (Ok x) are e = outcomes_take bytes x are e
found_in bytes (Err error) are e = tt

pub only_in : (bytes : List ℕ) (r : Result (List Outcome) ReadError) (x : List Outcome)
    → Gives (λ found. found) r (outcomes_at bytes) → AreOutcomes x → bytes ≡ outcomes_bytes x
    → Gives (λ found. found) r (Ok x)
only_in bytes r x given is e =
    subst (λ (read : Result (List Outcome) FormFault). Gives (λ found. found) r read)
    (ap outcomes_at e ∙ outcomes_again x is) given

-- ---- lengths

length_texts : (xs : List Outcome) → length (flat_map outcome_bytes xs) ≤ 17 * length xs
length_texts [] = omega arith
length_texts (x ∷ xs) =
    let others : length (flat_map outcome_bytes xs) ≤ 17 * length xs = length_texts xs in
    omega (arith, length_most x, length-append (outcome_bytes x) (flat_map outcome_bytes xs))

pub outcomes_fit : OutcomesFit
outcomes_fit xs few = omega (arith, length_texts xs)
