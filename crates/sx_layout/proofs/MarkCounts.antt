-- How often the marks of decided candidates have a bit, and what they take out of a purse.
use Rattle.std.proofs.Common.{◌≡◌, ℕ, zero, ◌+◌, ◌≤◌, Bool, true, false, List, [], ◌∷◌, ◌++◌}
use Rattle.std.proofs.Common.{sum_by, Option, Some, None, inl, inr, refl, sym, ap, ◌∙◌, ◌⊎◌, arith}
use Rattle.std.specs.Prelude.{◌==◌, ◌&&◌, if◌then◌else◌, option_to_list}
use Rattle.std.specs.List.{flat_map}
use Rattle.std.proofs.lemmas.Bool.{cases_Bool, and_parts, eqb-true, eq-eqb}
use Rattle.std.proofs.lemmas.List.Sums.{sum_by-append}
use Rattle.sx_event.specs.declared.marks.Claim.{Claim}
use Rattle.sx_event.specs.declared.marks.Claim.TheVariants.{Debit, Bit}
use Rattle.sx_event.specs.Rule.{bit_in, debit_in, debits as claimed_debits, times}
use Rattle.sx_layout.specs.declared.spot.Spot.{Spot}
use Rattle.sx_outcome.specs.Gathering.{Decision, is_accepted, keeps_number}
use Rattle.sx_layout.specs.Asked.{number_of}
use Rattle.sx_layout.specs.Marks.{marks, marks_of}
use Rattle.sx_layout.specs.Plan.{Plan, account_place, purse_spot}
use Rattle.sx_layout.specs.PlanLaws.{Thing, spot_of}
use Rattle.sx_layout.proofs.MarkedThings.{marks_are, named, posting_mark, taken, thing_mark, things}
use Rattle.sx_outcome.proofs.Totals.{total, sum_flat, sum_one, total_same, In}
use Rattle.sx_ledger.specs.declared.parts.Parts.{Parts}
use Rattle.sx_ledger.specs.Effects.{Posting}

-- ---- what the things of a candidate are

split_things : (b c : Bool) (x : Thing) (n : Option Thing) (t : Thing)
    → In t ((if b then x ∷ [] else []) ++ (if c then option_to_list n else []))
    → ((b ≡ true) × (t ≡ x)) ⊎ ((c ≡ true) × (n ≡ Some t))
split_things true c x n t (inl e) = inl (refl, sym e)
split_things true true x (Some y) t (inr (inl e)) = inr (refl, ap (λ (z : Thing). Some z) e)
split_things true true x (Some y) t (inr (inr is)) = absurd is
split_things true true x None t (inr is) = absurd is
split_things true false x n t (inr is) = absurd is
split_things false true x (Some y) t (inl e) = inr (refl, ap (λ (z : Thing). Some z) e)
split_things false true x (Some y) t (inr is) = absurd is
split_things false true x None t is = absurd is
split_things false false x n t is = absurd is

pub thing_of : (parts : Parts) (plan : Plan) (one : Decision) (t : Thing) → In t (things parts plan one)
    → ((keeps_number one.outcome ≡ true) × (t ≡ number_of parts one.tx))
    ⊎ ((is_accepted one.outcome ≡ true) × (named parts plan one.tx ≡ Some t))
thing_of parts plan one t is =
    split_things (keeps_number one.outcome) (is_accepted one.outcome) (number_of parts one.tx)
    (named parts plan one.tx) t is

pub number_in : (parts : Parts) (plan : Plan) (one : Decision) → keeps_number one.outcome ≡ true
    → In (number_of parts one.tx) (things parts plan one)
number_in parts plan one keeps = rw keeps (inl refl)

later : {X : Type 0} (x : X) (xs ys : List X) → In x ys → In x (xs ++ ys)
later x [] ys is = is
later x (y ∷ xs) ys is = inr (later x xs ys is)

pub named_in : (parts : Parts) (plan : Plan) (one : Decision) (t : Thing) → is_accepted one.outcome ≡ true
    → named parts plan one.tx ≡ Some t → In t (things parts plan one)
named_in parts plan one t accepted names =
    later t (if keeps_number one.outcome then number_of parts one.tx ∷ [] else [])
    (if is_accepted one.outcome then option_to_list (named parts plan one.tx) else [])
    (rw accepted (rw names (inl refl)))

-- ---- bits

-- how often a thing's claim has the bit of another
abbrev pub hits : Plan → Spot × ℕ → Thing → ℕ
hits plan spot thing = times (thing_mark plan spot.0.shard thing) spot.0.word spot.1

pub hits_itself : (plan : Plan) (thing : Thing) → hits plan (spot_of plan thing) thing ≡ 1
hits_itself plan thing =
    let spot = spot_of plan thing in
    rw (eq-eqb spot.0.shard spot.0.shard refl)
    (sum_one (bit_in spot.0.word spot.1) (Bit spot.0.word spot.1)
    ∙ rw (eq-eqb spot.0.word spot.0.word refl) (rw (eq-eqb spot.1 spot.1 refl) refl))

same_spot : (a b : Spot × ℕ) → a.0.shard ≡ b.0.shard → a.0.word ≡ b.0.word → a.1 ≡ b.1 → a ≡ b
same_spot a b p q r = λ i. (record { shard = p i; word = q i }, r i)

one_bit : (word bit of place : ℕ) → 1 ≤ bit_in word bit (Bit of place) → (of ≡ word) × (place ≡ bit)
one_bit word bit of place le =
    elim (cases_Bool ((of == word) && (place == bit))) [
      | inl e ↦ let both = and_parts (of == word) (place == bit) e in
          (eqb-true of word both.0, eqb-true place bit both.1)
      | inr e ↦ absurd (nothing (rw e at le))
    ]
  where
    nothing : 1 ≤ 0 → ⊥
    nothing h = omega arith

pub hits_same : (plan : Plan) (spot : Spot × ℕ) (thing : Thing) → 1 ≤ hits plan spot thing → spot_of plan thing ≡ spot
hits_same plan spot thing le =
    let at = spot_of plan thing in
    elim (cases_Bool (at.0.shard == spot.0.shard)) [
      | inl e ↦
          let counted = rw e at le in
          let one : 1 ≤ bit_in spot.0.word spot.1 (Bit at.0.word at.1) =
          omega (arith, counted, sum_one (bit_in spot.0.word spot.1) (Bit at.0.word at.1)) in
          let both = one_bit spot.0.word spot.1 at.0.word at.1 one in
          same_spot at spot (eqb-true at.0.shard spot.0.shard e) both.0 both.1
      | inr e ↦ absurd (nothing (rw e at le))
    ]
  where
    nothing : 1 ≤ 0 → ⊥
    nothing h = omega arith

no_bits : (parts : Parts) (plan : Plan) (shard word bit : ℕ) (posting : Option Posting)
    → times (posting_mark parts plan shard posting) word bit ≡ zero
no_bits parts plan shard word bit None = refl
no_bits parts plan shard word bit (Some posting) =
    let spot = purse_spot plan (account_place parts posting.account) posting.asset in
    elim (cases_Bool (spot.shard == shard)) [
      | inl e ↦ rw e (sum_one (bit_in word bit) (Debit spot.word posting.units))
      | inr e ↦ rw e refl
    ]

pub times_of : (parts : Parts) (plan : Plan) (spot : Spot × ℕ) (one : Decision)
    → times (marks_of parts plan spot.0.shard one) spot.0.word spot.1 ≡ total (hits plan spot) (things parts plan one)
times_of parts plan spot one =
    let bits = flat_map (thing_mark plan spot.0.shard) (things parts plan one) in
    let last = posting_mark parts plan spot.0.shard (taken one) in
    let all = ap (λ (c : List Claim). times c spot.0.word spot.1) (marks_are parts plan spot.0.shard one) in
    let split = sum_by-append (bit_in spot.0.word spot.1) bits last in
    let first = sum_flat (bit_in spot.0.word spot.1) (thing_mark plan spot.0.shard) (things parts plan one) in
    let second = no_bits parts plan spot.0.shard spot.0.word spot.1 (taken one) in
    omega (arith, all, split, first, second)

-- how often all marks have the bit
pub times_all : (parts : Parts) (plan : Plan) (spot : Spot × ℕ) (list : List Decision)
    → times (marks parts plan spot.0.shard list) spot.0.word spot.1
    ≡ total (λ one. total (hits plan spot) (things parts plan one)) list
times_all parts plan spot list =
    sum_flat (bit_in spot.0.word spot.1) (marks_of parts plan spot.0.shard) list
    ∙ total_same (λ one. times (marks_of parts plan spot.0.shard one) spot.0.word spot.1)
    (λ one. total (hits plan spot) (things parts plan one)) list (λ k one at. times_of parts plan spot one)

-- ---- purses

no_debits : (plan : Plan) (shard purse : ℕ) (list : List Thing)
    → claimed_debits (flat_map (thing_mark plan shard) list) purse ≡ zero
no_debits plan shard purse [] = refl
no_debits plan shard purse (thing ∷ list) =
    sum_by-append (debit_in purse) (thing_mark plan shard thing) (flat_map (thing_mark plan shard) list)
    ∙ here (cases_Bool ((spot_of plan thing).0.shard == shard)) (no_debits plan shard purse list)
  where
    here : ((spot_of plan thing).0.shard == shard) ≡ true ⊎ ((spot_of plan thing).0.shard == shard) ≡ false
        → sum_by (debit_in purse) (flat_map (thing_mark plan shard) list) ≡ zero
        → sum_by (debit_in purse) (thing_mark plan shard thing)
        + sum_by (debit_in purse) (flat_map (thing_mark plan shard) list) ≡ zero
    here (inl e) rest =
        let one = sum_one (debit_in purse) (Bit (spot_of plan thing).0.word (spot_of plan thing).1) in
        rw e (omega (arith, one, rest))
    here (inr e) rest = rw e (omega (arith, rest))

pub debits_all : (parts : Parts) (plan : Plan) (shard purse : ℕ) (list : List Decision)
    → claimed_debits (marks parts plan shard list) purse
    ≡ total (λ one. claimed_debits (posting_mark parts plan shard (taken one)) purse) list
debits_all parts plan shard purse list =
    sum_flat (debit_in purse) (marks_of parts plan shard) list
    ∙ total_same (λ one. claimed_debits (marks_of parts plan shard one) purse)
    (λ one. claimed_debits (posting_mark parts plan shard (taken one)) purse) list
    (λ k one at.
    let all = ap (λ (c : List Claim). claimed_debits c purse) (marks_are parts plan shard one) in
    let split = sum_by-append (debit_in purse) (flat_map (thing_mark plan shard) (things parts plan one))
    (posting_mark parts plan shard (taken one)) in
    let none = no_debits plan shard purse (things parts plan one) in
    omega (arith, all, split, none))
