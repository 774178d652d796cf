-- What the steps and the rule say of a word, of a note, of the ranges, and of a view that has all candidates.
use Rattle.std.proofs.Common.{◌≡◌, ◌≢◌, ℕ, suc, ◌+◌, ◌<◌, ◌≤◌, Bool, true, false, ◌&&◌, eqb, count_by, All, List, []}
use Rattle.std.proofs.Common.{◌∷◌, length, get_or, set, Option, Some, None, refl, sym, ap, subst, inl, inr, arith}
use Rattle.std.proofs.Common.{◌∙◌, length-set, get_or-set_other}
use Rattle.std.specs.Prelude.{slice_index, nat_le, nat_lt}
use Rattle.std.specs.List.{Contains}
use Rattle.std.proofs.lemmas.Bool.{cases_Bool, cases_lt, cases_eq, and_parts, eqb-true, eqb-false, leb-true, ltb-true}
use Rattle.std.proofs.lemmas.Bool.{false_from_ne_true, false≢true, lt-ltb}
use Rattle.std.proofs.lemmas.List.{get_or_past, get_or_append_left, set_past}
use Rattle.std.proofs.lemmas.List.Elements.{All-head, All-tail}
use Rattle.std.proofs.lemmas.List.Sums.{sum_by-cons}
use Rattle.std.proofs.lemmas.Option.{none-some, same_Some}
use Rattle.sx_event.specs.declared.event.Event.TheVariants.{Look, Take, Claim, Split, Join}
use Rattle.sx_event.specs.declared.event.Step.TheVariants.{Won, Lost}
use Rattle.sx_event.specs.declared.marks.Note.{Note}
use Rattle.sx_event.specs.declared.marks.Note.TheVariants.{Low, Set}
use Rattle.sx_event.specs.View.{View, spent, low_in, or_else, last_low}
use Rattle.sx_event.specs.State.{State, view_of, purse_of, word_of}
use Rattle.sx_event.specs.Step.{wins, word_after_claim, left_part, right_part, joined}
use Rattle.sx_event.specs.Rule.{debits, times, LowFits, SetFits, owns, is_live, Rule}
use Rattle.sx_event.specs.Laws.{LostFindsLess, BitsStay, OthersStay, LowsRead, SetsRead, Owns, RangesRead, WholeHasAll}
use Rattle.sx_event.proofs.Sums.{live_is_within, two_at_most, sum_alone}
use Rattle.sx_event.proofs.Ranges.{one, owns_live, lies_within, owned_is_below, two_live}
use Rattle.sx_event.proofs.Words.{bit_after}

-- ---- a lost Take

-- what the last of two notes tells is one of theirs
latest : (opening present : List ℕ) (purse : ℕ) (note : Note) (value : ℕ) (later : Option ℕ) →
    LowFits opening present note
    → (later ≡ Some value → slice_index present purse ≤ value) → or_else later (low_in purse note) ≡ Some value →
    slice_index present purse ≤ value
latest opening present purse note value (Some told) fit rest e = rest e
latest opening present purse (Set word bit) value None fit rest e = absurd (none-some value e)
latest opening present purse (Low of told) value None fit rest e = elim (cases_Bool (eqb of purse)) [
  | inl same ↦
      let is : Some told ≡ Some value = (let h : Some told ≡ low_in purse (Low of told) = rw same refl in h) ∙ e in
      rw (← same_Some told value is, ← eqb-true of purse same) fit.0
  | inr apart ↦ absurd (none-some value ((let h : None ≡ low_in purse (Low of told) = rw apart refl in h) ∙ e))
]

-- the purse has at most what the last Low note tells
last_low_fits : (opening present : List ℕ) (purse : ℕ) (notes : List Note) (value : ℕ) →
    All (LowFits opening present) notes
    → last_low purse notes ≡ Some value → slice_index present purse ≤ value
last_low_fits opening present purse [] value fits e = absurd (none-some value e)
last_low_fits opening present purse (note ∷ notes) value fits e =
    latest opening present purse note value (last_low purse notes) (All-head (LowFits opening present) note notes fits)
    (last_low_fits opening present purse notes value (All-tail (LowFits opening present) note notes fits)) e

pub lost_finds_less : LostFindsLess
lost_finds_less s actor purse need found seen rule allowed told noted =
    let v = view_of s actor in
    let now = purse_of s purse in
    let lt = live_is_within s.views actor allowed.0 in
    let le : now ≤ seen = last_low_fits s.opening_purses s.purses purse v.notes seen (rule.lows actor spent lt) noted in
    elim (cases_Bool (wins v purse now)) [
      | inl as_seen ↦
          let is : Won ≡ Lost found = rw as_seen at told in
          cc
      | inr changed ↦
          let is : Lost now ≡ Lost found = rw changed at told in
          let same : now ≡ found = cc in
          let differ : eqb now seen ≡ false = rw noted at changed in
          omega (arith, eqb-false now seen differ)
    ]

-- ---- words along a step

pub bits_stay : BitsStay
bits_stay s actor (Look purse) word bit = omega arith
bits_stay s actor (Take purse need) word bit = omega arith
bits_stay s actor (Split at) word bit = omega arith
bits_stay s actor (Join other) word bit = omega arith
bits_stay s actor (Claim of place) word bit =
    elim (cases_lt of (length s.bits)) [
      | inl lt ↦ omega (arith, bit_after s.bits of place word bit lt)
      | inr past ↦ rw (set_past s.bits of (word_after_claim place (word_of s of)) past) (omega arith)
    ]

pub others_stay : OthersStay
others_stay s actor (Look purse) view apart ne lt = get_or-set_other s.views actor view _ spent apart
others_stay s actor (Take purse need) view apart ne lt = get_or-set_other s.views actor view _ spent apart
others_stay s actor (Claim word bit) view apart ne lt = get_or-set_other s.views actor view _ spent apart
others_stay s actor (Split at) view apart ne lt =
    let left = left_part (view_of s actor) at in
    get_or_append_left (set s.views actor left) (right_part (view_of s actor) at ∷ []) spent view
    (omega (arith, length-set s.views actor left))
    ∙ get_or-set_other s.views actor view left spent apart
others_stay s actor (Join other) view apart ne lt =
    let both = joined (view_of s actor) (view_of s other) in
    get_or-set_other (set s.views actor both) other view spent spent (λ same. ne (ap Join (sym same)))
    ∙ get_or-set_other s.views actor view both spent apart

-- ---- notes

-- a view that has a note is one of the list
has_note : (s : State) (view : ℕ) (note : Note) → Contains (view_of s view).notes note → view < length s.views
has_note s view note has = elim (cases_lt view (length s.views)) [
  | inl lt ↦ lt
  | inr past ↦
      let none : length (view_of s view).notes ≡ 0 =
      ap (λ (v : View). length v.notes) (get_or_past s.views view spent past) in
      absurd (omega (arith, has.1))
]

pub lows_read : LowsRead
lows_read s view purse value rule has =
    let fit = rule.lows view spent (has_note s view (Low purse value) has) has.0 (Low purse value) has.1 in
    subst (LowFits s.opening_purses s.purses) has.2 fit

pub sets_read : SetsRead
sets_read s view word bit rule has =
    let fit = rule.sets view spent (has_note s view (Set word bit) has) has.0 (Set word bit) has.1 in
    subst (SetFits s.bits) has.2 fit

-- what is not live has nothing
is_spent : (s : State) (other : ℕ) → Rule s → (view_of s other).live ≢ true → view_of s other ≡ spent
is_spent s other rule dead = elim (cases_lt other (length s.views)) [
  | inl lt ↦ rule.ranges.bare other spent lt (false_from_ne_true (view_of s other).live dead)
  | inr past ↦ get_or_past s.views other spent past
]

-- ---- ranges

-- what is counted is somewhere
some_counted : (p : View → Bool) (views : List View) → 1 ≤ count_by p views → (k : ℕ) ×
    (p (get_or views k spent) ≡ true)
some_counted p [] some = absurd (omega arith)
some_counted p (v ∷ views) some = elim (cases_Bool (p v)) [
  | inl is ↦ (0, is)
  | inr is_not ↦
      let none : one (p v) ≡ 0 = ap one is_not in
      let rest = some_counted p views (omega (arith, sum_by-cons (λ w. one (p w)) v views)) in
      (suc rest.0, rest.1)
]

-- no two live views are counted where one is
only_one : (p : View → Bool) (s : State) (name other : ℕ) → p spent ≡ false → count_by p s.views ≡ 1
    → (view_of s name).live ≡ true → p (view_of s name) ≡ true → (view_of s other).live ≡ true →
    p (view_of s other) ≡ true → other ≡ name
only_one p s name other none all live is live' is' = elim (cases_eq other name) [
  | inl same ↦ same
  | inr apart ↦
      let first : one (p (view_of s name)) ≡ 1 = ap one is in
      let second : one (p (view_of s other)) ≡ 1 = ap one is' in
      let zero_is : one (p spent) ≡ 0 = ap one none in
      absurd (omega (
        arith,
        two_at_most (λ v. one (p v)) s.views name other (live_is_within s.views name live)
            (live_is_within s.views other live') apart,
      ))
]

-- a test that is passed says that the view is live, and where its range is
owned_by : (s : State) (name candidate : ℕ) → owns candidate (view_of s name) ≡ true → Owns s name candidate
owned_by s name candidate is =
    let v = view_of s name in
    let parts = and_parts v.live (nat_le v.from candidate && nat_lt candidate v.end) is in
    let ends = and_parts (nat_le v.from candidate) (nat_lt candidate v.end) parts.1 in
    record { live = parts.0; from = leb-true v.from candidate ends.0; end = ltb-true candidate v.end ends.1 }

test_owned : (s : State) (name candidate : ℕ) → Owns s name candidate → owns candidate (view_of s name) ≡ true
test_owned s name candidate is =
    let v = view_of s name in
    owns_live candidate v is.live ∙ lies_within candidate v.from v.end is.from is.end

pub ranges_read : RangesRead
ranges_read s rule = record {
  owner = λ candidate lt.
      let all : count_by (owns candidate) s.views ≡ 1 = rule.ranges.one_owner candidate ∙
      ap one (lt-ltb candidate s.count lt) in
      let some = some_counted (owns candidate) s.views (omega arith) in
      let is = owned_by s some.0 candidate some.1 in (
        some.0,
        is,
        λ other it. only_one (owns candidate) s some.0 other refl all is.live some.1 it.live
            (test_owned s other candidate it),
      );
  candidates = λ name candidate is.
      owned_is_below s.count s.views name candidate rule.ranges (live_is_within s.views name is.live) is.live
      is.from is.end;
  filled = λ name some live. rule.ranges.filled some name spent (live_is_within s.views name live) live;
  lone = λ none.
      let all = rule.ranges.lone none in
      let some = some_counted is_live s.views (omega arith) in
      (some.0, some.1, λ other live. only_one is_live s some.0 other refl all some.1 some.1 live live);
  bare = λ name dead. is_spent s name rule (λ live. false≢true (sym dead ∙ live));
}

-- ---- a view that has all candidates

alone : (s : State) (name other : ℕ) → Rule s → (view_of s name).live ≡ true → (view_of s name).from ≡ 0 →
    (view_of s name).end ≡ s.count
    → other ≢ name → (view_of s other).live ≢ true
alone s name other rule live from end apart live' =
    let v = view_of s name in
    let o = view_of s other in
    let lt = live_is_within s.views name live in
    let within = live_is_within s.views other live' in
    let some : 0 < s.count = two_live s.count s.views name other rule.ranges lt within apart live live' in
    let filled : o.from < o.end = rule.ranges.filled some other spent within live' in
    let below : o.from < s.count = owned_is_below s.count s.views other o.from rule.ranges within live'
    (omega arith) filled in
    let first : owns o.from v ≡ true = owns_live o.from v live ∙
    lies_within o.from v.from v.end (omega arith) (omega arith) in
    let second : owns o.from o ≡ true = owns_live o.from o live' ∙
    lies_within o.from o.from o.end (omega arith) filled in
    let one_first : one (owns o.from v) ≡ 1 = ap one first in
    let one_second : one (owns o.from o) ≡ 1 = ap one second in
    let both : one (owns o.from v) + one (owns o.from o) ≤ count_by (owns o.from) s.views + 0 =
    two_at_most (λ u. one (owns o.from u)) s.views name other lt within apart in
    let counted : count_by (owns o.from) s.views ≡ 1 = rule.ranges.one_owner o.from ∙
    ap one (lt-ltb o.from s.count below) in
    omega arith

pub whole_has_all : WholeHasAll
whole_has_all s name rule live from end =
    let lt = live_is_within s.views name live in
    let bare = λ (other : ℕ) (apart : other ≢ name). is_spent s other rule
    (alone s name other rule live from end apart) in
    record {
      alone = λ other apart. alone s name other rule live from end apart;
      debits = λ p. sum_alone (λ u. debits u.claims p) s.views name lt refl
          (λ other apart. ap (λ (u : View). debits u.claims p) (bare other apart));
      times = λ p b. sum_alone (λ u. times u.claims p b) s.views name lt refl
          (λ other apart. ap (λ (u : View). times u.claims p b) (bare other apart));
    }
