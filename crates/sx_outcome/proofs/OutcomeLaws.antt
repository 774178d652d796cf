-- Decoding an outcome inverts encoding it.
use Rattle.std.proofs.Common.{◌≡◌, ℕ, zero, suc, ◌+◌, ◌^◌, ◌≤◌, List, [], ◌++◌, length, Result, Ok, refl, sym, ap}
use Rattle.std.proofs.Common.{subst, ◌∙◌, append_assoc, arith}
use Rattle.byteorder.specs.Endian.{big_bytes}
use Rattle.sx_bytes.specs.declared.fault.Form.TheVariants as form
use Rattle.sx_bytes.specs.declared.fault.FormFault.{FormFault}
use Rattle.sx_bytes.specs.Field.{AreBytes}
use Rattle.sx_bytes.specs.Cursor.{Cursor, rest}
use Rattle.sx_bytes.specs.Grammar.{◌>>=◌, between, field_at}
use Rattle.sx_bytes.proofs.Grammar.{bind_ok, done, Takes, Takes-none, Takes-then, Again}
use Rattle.sx_bytes.proofs.DecodingSteps.{bytes_after, range_takes, range_again, again_then}
use Rattle.sx_bytes.proofs.Parts.{TakesAll, ReadsAgain, made_is}
use Rattle.sx_outcome.specs.declared.outcome.Outcome.{Outcome}
use Rattle.sx_outcome.specs.declared.outcome.Outcome.TheVariants as outcome
use Rattle.sx_outcome.specs.Laws.{NumbersNameStatics}
use Rattle.sx_outcome.specs.OutcomeDecoding.{static_numbered, static_at, overdraft_at, fields_at, outcome_at}
use Rattle.sx_outcome.specs.Outcomes.{outcome_bytes, IsOutcome, IsShortage}
use Rattle.sx_ledger.specs.declared.statics.Static.{Static}
use Rattle.sx_ledger.specs.declared.statics.Static.TheVariants.{UnknownAccount, SeqBehind, SeqBeyond, UnknownAsset}
use Rattle.sx_ledger.specs.declared.statics.Static.TheVariants.{SamePair, UnknownPayee, AccountExists, NoSuchOffer}
use Rattle.sx_ledger.specs.declared.statics.Static.TheVariants.{Dust, SeqUsed}
use Rattle.sx_ledger.specs.Static.{number_of_static}

-- ---- the number of a static refusal

pub numbers_name : NumbersNameStatics
numbers_name UnknownAccount = refl
numbers_name SeqBehind = refl
numbers_name SeqBeyond = refl
numbers_name UnknownAsset = refl
numbers_name SamePair = refl
numbers_name UnknownPayee = refl
numbers_name AccountExists = refl
numbers_name NoSuchOffer = refl
numbers_name Dust = refl
numbers_name SeqUsed = refl

number_in_range : (why : Static) → (1 ≤ number_of_static why) × (number_of_static why ≤ 10)
number_in_range UnknownAccount = (omega arith, omega arith)
number_in_range SeqBehind = (omega arith, omega arith)
number_in_range SeqBeyond = (omega arith, omega arith)
number_in_range UnknownAsset = (omega arith, omega arith)
number_in_range SamePair = (omega arith, omega arith)
number_in_range UnknownPayee = (omega arith, omega arith)
number_in_range AccountExists = (omega arith, omega arith)
number_in_range NoSuchOffer = (omega arith, omega arith)
number_in_range Dust = (omega arith, omega arith)
number_in_range SeqUsed = (omega arith, omega arith)

number_back : (n : ℕ) → 1 ≤ n → n ≤ 10 → number_of_static (static_numbered n) ≡ n
number_back zero some few = absurd (omega arith)
number_back (suc zero) some few = refl
number_back (suc (suc zero)) some few = refl
number_back (suc (suc (suc zero))) some few = refl
number_back (suc (suc (suc (suc zero)))) some few = refl
number_back (suc (suc (suc (suc (suc zero))))) some few = refl
number_back (suc (suc (suc (suc (suc (suc zero)))))) some few = refl
number_back (suc (suc (suc (suc (suc (suc (suc zero))))))) some few = refl
number_back (suc (suc (suc (suc (suc (suc (suc (suc zero)))))))) some few = refl
number_back (suc (suc (suc (suc (suc (suc (suc (suc (suc zero))))))))) some few = refl
number_back (suc (suc (suc (suc (suc (suc (suc (suc (suc (suc zero)))))))))) some few = refl
number_back (suc (suc (suc (suc (suc (suc (suc (suc (suc (suc (suc n))))))))))) some few = absurd (omega arith)

-- ---- the fields after the number of an outcome

-- after the number n these fields stand, and they make the outcome
abbrev AreFields : ℕ → Cursor → Cursor → Outcome → Type 0
AreFields n c next x = (text : List ℕ) × (big_bytes 1 n ++ text ≡ outcome_bytes x) × Takes c text next × IsOutcome x

-- no field follows
none_take : (n : ℕ) (y : Outcome) (c next : Cursor) (x : Outcome) → big_bytes 1 n ++ [] ≡ outcome_bytes y → IsOutcome y
    → done {A = Outcome × Cursor} (y, c) ≡ Ok (x, next) → AreFields n c next x
none_take n y c next x text is e =
    let m = made_is y x c next e in
    subst (AreFields n c next) m.0 ([], text, subst (λ (d : Cursor). Takes c [] d) m.1 (Takes-none c), is)

static_take : (c next : Cursor) (x : Outcome) → AreBytes c.bytes → static_at c ≡ Ok (x, next) → AreFields 1 c next x
unfolding static_at
static_take c next x bytes e =
    let a = bind_ok (field_at 1 (between 1 10) form.Tag c) (λ n. Ok (outcome.Static (static_numbered n.0), n.1))
    (x, next) e in
    let t = range_takes 1 1 10 form.Tag c a.0.1 a.0.0 bytes a.1 in
    let is = made_is (outcome.Static (static_numbered a.0.0)) x a.0.1 next a.2 in
    let text : big_bytes 1 1 ++ big_bytes 1 a.0.0 ≡ outcome_bytes (outcome.Static (static_numbered a.0.0)) =
    ap (λ (n : ℕ). big_bytes 1 1 ++ big_bytes 1 n) (sym (number_back a.0.0 t.1 t.2)) in
    subst (AreFields 1 c next) is.0
    (big_bytes 1 a.0.0, text, subst (λ (d : Cursor). Takes c (big_bytes 1 a.0.0) d) is.1 t.0, tt)

abbrev at_need : ℕ × Cursor → Result (Outcome × Cursor) FormFault
at_need seen =
    field_at 8 (between (seen.0 + 1) (2 ^ 62)) form.AmountRange seen.1
    >>= λ need. Ok (outcome.Overdraft seen.0 need.0, need.1)

overdraft_take : (c next : Cursor) (x : Outcome) → AreBytes c.bytes → overdraft_at c ≡ Ok (x, next)
    → AreFields 5 c next x
unfolding overdraft_at
overdraft_take c next x bytes e =
    let a = bind_ok (field_at 8 (between 0 (2 ^ 62)) form.AmountRange c) at_need (x, next) e in
    let b =
    bind_ok (field_at 8 (between (a.0.0 + 1) (2 ^ 62)) form.AmountRange a.0.1)
    (λ need. Ok (outcome.Overdraft a.0.0 need.0, need.1)) (x, next) a.2 in
    let seen = big_bytes 8 a.0.0 in
    let need = big_bytes 8 b.0.0 in
    let t1 = range_takes 8 0 (2 ^ 62) form.AmountRange c a.0.1 a.0.0 bytes a.1 in
    let t2 =
    range_takes 8 (a.0.0 + 1) (2 ^ 62) form.AmountRange a.0.1 b.0.1 b.0.0 (bytes_after c a.0.1 seen t1.0 bytes) b.1 in
    let is = made_is (outcome.Overdraft a.0.0 b.0.0) x b.0.1 next b.2 in
    let both : Takes c (seen ++ need) b.0.1 = Takes-then c a.0.1 b.0.1 seen need t1.0 t2.0 in
    let short : IsShortage a.0.0 b.0.0 = (omega (arith, t2.1), t2.2) in
    subst (AreFields 5 c next) is.0
    (seen ++ need, refl, subst (λ (d : Cursor). Takes c (seen ++ need) d) is.1 both, short)

fields_take : (n : ℕ) (c next : Cursor) (x : Outcome) → AreBytes c.bytes → n ≤ 5 → fields_at n c ≡ Ok (x, next)
    → AreFields n c next x
fields_take zero c next x bytes few e = none_take 0 outcome.Accepted c next x refl tt e
fields_take (suc zero) c next x bytes few e = static_take c next x bytes e
fields_take (suc (suc zero)) c next x bytes few e = none_take 2 outcome.SeqTaken c next x refl tt e
fields_take (suc (suc (suc zero))) c next x bytes few e = none_take 3 outcome.OfferTaken c next x refl tt e
fields_take (suc (suc (suc (suc zero)))) c next x bytes few e = none_take 4 outcome.NameTaken c next x refl tt e
fields_take (suc (suc (suc (suc (suc zero))))) c next x bytes few e = overdraft_take c next x bytes e
fields_take (suc (suc (suc (suc (suc (suc n)))))) c next x bytes few e = absurd (omega arith)

pub outcome_takes : TakesAll outcome_at outcome_bytes IsOutcome
unfolding outcome_at
outcome_takes c next x bytes e =
    let n = bind_ok (field_at 1 (between 0 5) form.Tag c) (λ n. fields_at n.0 n.1) (x, next) e in
    let t0 = range_takes 1 0 5 form.Tag c n.0.1 n.0.0 bytes n.1 in
    let t1 = fields_take n.0.0 n.0.1 next x (bytes_after c n.0.1 (big_bytes 1 n.0.0) t0.0 bytes) t0.2 n.2 in
    let all : Takes c (big_bytes 1 n.0.0 ++ t1.0) next =
    Takes-then c n.0.1 next (big_bytes 1 n.0.0) t1.0 t0.0 t1.2 in
    (subst (λ (text : List ℕ). Takes c text next) t1.1 all, t1.3)

-- ---- and back

-- the number of an outcome, and its fields after it
number_again : (n : ℕ) (c : Cursor) (x : Outcome) (text after : List ℕ) → n ≤ 5
    → ((mid : Cursor) → mid.place ≤ length mid.bytes → rest mid ≡ text ++ after → Again (fields_at n mid) mid x after)
    → c.place ≤ length c.bytes → rest c ≡ (big_bytes 1 n ++ text) ++ after → Again (outcome_at c) c x after
unfolding outcome_at
number_again n c x text after few again within e =
    let a =
    range_again 1 0 5 form.Tag c n (text ++ after) (omega arith) (omega arith) few within
    (e ∙ append_assoc (big_bytes 1 n) text after) in
    again_then (field_at 1 (between 0 5) form.Tag c) (λ n. fields_at n.0 n.1) c n x (text ++ after) after a
    (again a.next a.within a.rest_is)

static_again : (why : Static) (mid : Cursor) (after : List ℕ) → mid.place ≤ length mid.bytes
    → rest mid ≡ big_bytes 1 (number_of_static why) ++ after → Again (static_at mid) mid (outcome.Static why) after
unfolding static_at
static_again why mid after within e =
    let n = number_of_static why in
    let range = number_in_range why in
    let a = range_again 1 1 10 form.Tag mid n after (omega arith) range.0 range.1 within e in
    let made : static_numbered n ≡ why = numbers_name why in
    record {
      next = a.next;
      is = rw a.is (ap (λ (found : Static). Ok (outcome.Static found, a.next)) made);
      rest_is = a.rest_is;
      same = a.same;
      within = a.within;
    }

overdraft_again : (seen need : ℕ) (mid : Cursor) (after : List ℕ) → IsShortage seen need
    → mid.place ≤ length mid.bytes → rest mid ≡ (big_bytes 8 seen ++ big_bytes 8 need) ++ after
    → Again (overdraft_at mid) mid (outcome.Overdraft seen need) after
unfolding overdraft_at
overdraft_again seen need mid after is within e =
    let a =
    range_again 8 0 (2 ^ 62) form.AmountRange mid seen (big_bytes 8 need ++ after) (omega arith) (omega arith)
    (omega (arith, is.0, is.1)) within (e ∙ append_assoc (big_bytes 8 seen) (big_bytes 8 need) after) in
    let b =
    range_again 8 (seen + 1) (2 ^ 62) form.AmountRange a.next need after (omega arith) (omega (arith, is.0)) is.1
    a.within a.rest_is in
    record {
      next = b.next;
      is = rw a.is (rw b.is refl);
      rest_is = b.rest_is;
      same = b.same ∙ a.same;
      within = b.within;
    }

-- a cursor at the end of an outcome without fields
ends : (x : Outcome) (mid : Cursor) (after : List ℕ) → mid.place ≤ length mid.bytes → rest mid ≡ after
    → Again (done {A = Outcome × Cursor} (x, mid)) mid x after
ends x mid after within e = record { next = mid; is = refl; rest_is = e; same = refl; within = within }

pub outcome_again : ReadsAgain outcome_at outcome_bytes IsOutcome
outcome_again c outcome.Accepted after is within e =
    number_again 0 c outcome.Accepted [] after (omega arith) (λ mid. ends outcome.Accepted mid after) within e
outcome_again c (outcome.Static why) after is within e =
    number_again 1 c (outcome.Static why) (big_bytes 1 (number_of_static why)) after (omega arith)
    (λ mid. static_again why mid after) within e
outcome_again c outcome.SeqTaken after is within e =
    number_again 2 c outcome.SeqTaken [] after (omega arith) (λ mid. ends outcome.SeqTaken mid after) within e
outcome_again c outcome.OfferTaken after is within e =
    number_again 3 c outcome.OfferTaken [] after (omega arith) (λ mid. ends outcome.OfferTaken mid after) within e
outcome_again c outcome.NameTaken after is within e =
    number_again 4 c outcome.NameTaken [] after (omega arith) (λ mid. ends outcome.NameTaken mid after) within e
outcome_again c (outcome.Overdraft seen need) after is within e =
    number_again 5 c (outcome.Overdraft seen need) (big_bytes 8 seen ++ big_bytes 8 need) after (omega arith)
    (λ mid. overdraft_again seen need mid after is) within e

-- ---- lengths

pub length_most : (x : Outcome) → length (outcome_bytes x) ≤ 17
length_most outcome.Accepted = omega arith
length_most (outcome.Static why) = omega arith
length_most outcome.SeqTaken = omega arith
length_most outcome.OfferTaken = omega arith
length_most outcome.NameTaken = omega arith
length_most (outcome.Overdraft seen need) = omega arith
