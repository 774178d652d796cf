-- Each of the five kinds of step keeps the rule of the table.
use Rattle.std.proofs.Common.{◌≡◌, ℕ, ◌+◌, ◌-◌, ◌<◌, ◌≤◌, ◌^◌, true, eqb, List, [], ◌∷◌, ◌++◌, length, map}
use Rattle.std.proofs.Common.{get_or, set, All, refl, sym, ap, ◌∙◌, subst, inl, inr, arith, bit_or}
use Rattle.std.specs.Prelude.{slice_index, Some}
use Rattle.std.proofs.lemmas.List.{map-set, map-append, length-map}
use Rattle.std.proofs.lemmas.List.Elements.{All-set, All-push}
use Rattle.std.proofs.lemmas.List.Sums.{get_or-le-sum_by}
use Rattle.std.proofs.lemmas.Bool.{cases_eq, eq-eqb, ne_eqb, false≢true}
use mathlib.Core.Option.{some}
use lib.ListN.{get_elem?}
use prog.Atomic.{either}
use Rattle.atomic_table.proofs.Lists.{at_set}
use Rattle.atomic_table.specs.Table as table
use Rattle.atomic_table.specs.Table.{Me, Allows, Splits, Joins, keeps, stepped}
use Rattle.sx_event.specs.declared.event.Event.{Event}
use Rattle.sx_event.specs.declared.event.Event.TheVariants.{Look, Take, Claim, Split}
use Rattle.sx_event.specs.declared.marks.Note.{Note}
use Rattle.sx_event.specs.declared.marks.Note.TheVariants.{Low, Set}
use Rattle.sx_event.specs.View.{View, spent, last_low}
use Rattle.sx_event.specs.State.{view_of, purse_of, word_of}
use Rattle.sx_event.specs.Step.{after_look, after_take, after_claim, purse_after_take, word_after_claim}
use Rattle.sx_event.specs.Step.{left_part, right_part, joined}
use Rattle.sx_event.specs.Rule.{Rule, debits, all_debits, LowFits}
use Rattle.sx_event.proofs.Words.{found_stays}
use Rattle.sx_event.proofs.Keeping.{look_keeps, take_keeps, claim_keeps, split_holds, join_keeps}
use Rattle.sx_shard.specs.declared.known.Known.{Known}
use Rattle.sx_shard.specs.declared.known.Opening.{Opening}
use Rattle.sx_shard.specs.Words.{purses_in, bits_in}
use Rattle.sx_shard.specs.Known.{view_in, known_of}
use Rattle.sx_shard.specs.Table.{opening_purses, opening_bits, state_in, HasCopy, Kept}
use Rattle.sx_shard.specs.Plays.{IsBelow, IsFresh, Tells, kept_part, given_part, both, gone}
use Rattle.sx_shard.proofs.Places.{purse_word, purse_set, bits_stay, bit_word, bits_set, purses_stay, below}
use Rattle.sx_shard.proofs.Places.{zero_stays, is_within, is_at, view_at}

abbrev Table : Type 0
Table = table.State (Unit {0}) Known

-- a live seat's copy
pub copy : (opening : Opening) (s : Table) (name : ℕ) (known : Known) → Kept opening s
    → get_elem? s.views name ≡ some known → known.live ≡ true → known.opening ≡ opening_purses opening
copy opening s name known kept at live =
    let here = is_at s.views name known known at in
    subst (HasCopy (opening_purses opening)) here (kept.copies name known (is_within s.views name known at)) live

-- a table after a step on a word that is not word 0, by a live seat that keeps its copy
moved : (opening : Opening) (s : Table) (name : ℕ) (known after : Known) (word value : ℕ) → Kept opening s
    → get_elem? s.views name ≡ some known → known.live ≡ true → after.opening ≡ known.opening
    → Rule (state_in opening (set s.words (1 + word) value) (set s.views name after))
    → (slots : List (ℕ × Unit {0})) → Kept opening (stepped s (1 + word) value name slots after keeps)
moved opening s name known after word value kept at live same rule slots = record {
  rule = rule;
  copies = All-set (HasCopy (opening_purses opening)) s.views name after
      (λ _. same ∙ copy opening s name known kept at live) kept.copies;
  zero = zero_stays s.words word value ∙ kept.zero;
}

-- what a note tells of the purse is no less than what the purse has
below_note : (opening present : List ℕ) (purse : ℕ) (note : Note) → LowFits opening present note →
    IsBelow purse (slice_index present purse) note
below_note opening present purse (Low of seen) fits = λ same. subst (λ p. slice_index present p ≤ seen) same fits.0
below_note opening present purse (Set word bit) fits = tt

-- what one view has taken of a purse is at most what all have
mine : (views : List View) (name purse : ℕ) (view : View) → name < length views → get_or views name spent ≡ view →
    debits view.claims purse ≤ all_debits views purse
mine views name purse view lt here =
    subst (λ (v : View). debits v.claims purse ≤ all_debits views purse) here
    (get_or-le-sum_by (λ v. debits v.claims purse) views name spent lt)

-- what is found of a purse is fresh
fresh : (opening : Opening) (s : Table) (name : ℕ) (known : Known) (purse : ℕ) → Kept opening s
    → get_elem? s.views name ≡ some known → known.live ≡ true
    → IsFresh known.opening (view_in known) purse (slice_index (purses_in opening.purses s.words) purse)
fresh opening s name known purse kept at live =
    let core = state_in opening s.words s.views in
    let lt : name < length core.views = omega (arith, is_within s.views name known at, length-map s.views view_in) in
    let here : get_or core.views name spent ≡ view_in known = view_at s.views name known at in
    let lows : All (LowFits core.opening_purses core.purses) known.notes =
    subst (λ (v : View). All (LowFits core.opening_purses core.purses) v.notes) here (kept.rule.lows name spent lt) in
    record {
      debits = subst (λ l. purse_of core purse + debits known.claims purse ≤ slice_index l purse)
          (sym (copy opening s name known kept at live))
          (omega (arith, kept.rule.purses.adds_up purse, mine core.views name purse (view_in known) lt here));
      notes = λ k d in'. below_note core.opening_purses core.purses purse (get_or known.notes k d) (lows k d in');
    }

-- the state of the core after a step on a word and a view
state_after : (opening : Opening) (s : Table) (name : ℕ) (after : Known) (words purses bits : List ℕ)
    → purses_in opening.purses words ≡ purses → bits_in opening.purses words ≡ bits
    → (view : View) → view_in after ≡ view
    → Rule (record (state_in opening s.words s.views) {
      purses = purses;
      bits = bits;
      views = set (map view_in s.views) name view;
    }) → Rule (state_in opening words (set s.views name after))
state_after opening s name after words purses bits same_purses same_bits view same_view rule =
    rw (same_purses, same_bits, map-set view_in s.views name after, same_view) rule

-- a step of a seat on a purse: what the core's rule says of the word and the view carries over
on_purse : (opening : Opening) (s : Table) (name : ℕ) (me : Me (Unit {0}) Known) (purse value : ℕ) (view : View)
    → Kept opening s → get_elem? s.views name ≡ some me.0 → me.0.live ≡ true
    → purse < length (purses_in opening.purses s.words)
    → Rule (record (state_in opening s.words s.views) {
      purses = set (purses_in opening.purses s.words) purse value;
      views = set (map view_in s.views) name view;
    })
    → Kept opening (stepped s (1 + purse) value name me.1 (known_of view me.0.opening) keeps)
on_purse opening s name me purse value view kept at live lt rule =
    moved opening s name me.0 (known_of view me.0.opening) purse value kept at live refl
    (state_after opening s name (known_of view me.0.opening) (set s.words (1 + purse) value)
    (set (purses_in opening.purses s.words) purse value) (bits_in opening.purses s.words)
    (purse_set opening.purses s.words purse value lt)
    (bits_stay opening.purses s.words purse value (below opening.purses s.words purse lt)) view refl rule) me.1

-- a step of a seat on a bit word
on_bits : (opening : Opening) (s : Table) (name : ℕ) (me : Me (Unit {0}) Known) (word value : ℕ) (view : View)
    → Kept opening s → get_elem? s.views name ≡ some me.0 → me.0.live ≡ true
    → Rule (record (state_in opening s.words s.views) {
      bits = set (bits_in opening.purses s.words) word value;
      views = set (map view_in s.views) name view;
    })
    → Kept opening (stepped s (1 + opening.purses + word) value name me.1 (known_of view me.0.opening) keeps)
on_bits opening s name me word value view kept at live rule =
    let place : 1 + (opening.purses + word) ≡ 1 + opening.purses + word = omega arith in
    let after = known_of view me.0.opening in
    subst (λ k. Kept opening (stepped s k value name me.1 after keeps)) place
    (moved opening s name me.0 after (opening.purses + word) value kept at live refl
    (state_after opening s name after (set s.words (1 + (opening.purses + word)) value)
    (purses_in opening.purses s.words) (set (bits_in opening.purses s.words) word value)
    (rw place (purses_stay opening.purses s.words word value))
    (rw place (bits_set opening.purses s.words word value)) view refl rule) me.1)

-- the view of a live seat is live in the core
lives : (opening : Opening) (s : Table) (name : ℕ) (known : Known) → get_elem? s.views name ≡ some known →
    known.live ≡ true → (view_of (state_in opening s.words s.views) name).live ≡ true
lives opening s name known at live =
    subst (λ (v : View). v.live ≡ true) (sym (view_at s.views name known at)) live

-- Look: a load of a purse
pub looks : (opening : Opening) (slots name : ℕ) (me : Me (Unit {0}) Known) (purse : ℕ)
    → me.0.live ≡ true → purse < length (opening_purses opening)
    → Allows (Kept opening) slots name me (1 + purse) (λ n. n) (Tells (Look purse) me)
looks opening slots name me purse live lt s kept homes at fits =
    let core = state_in opening s.words s.views in
    let known = me.0 in
    let found = slice_index s.words (1 + purse) in
    let here : view_of core name ≡ view_in known = view_at s.views name known at in
    let in' : purse < length core.purses = omega (arith, kept.rule.purses.as_many) in
    let same : purse_of core purse ≡ found = sym (purse_word opening.purses s.words purse in') in
    let view = after_look (view_in known) purse found in
    let rule = look_keeps purse core name kept.rule (lives opening s name known at live, in') in
    let moves = subst (λ (z : View × ℕ). Rule (record core {
      purses = set core.purses purse z.1;
      views = set core.views name (after_look z.0 purse z.1);
    })) (λ i. (here i, same i)) (rw (found_stays core.purses purse) rule) in
    let tells = subst (IsFresh known.opening (view_in known) purse) same
    (fresh opening s name known purse kept at live) in (
      known_of view known.opening,
      keeps,
      tt,
      on_purse opening s name me purse found view kept at live in' moves,
      (record { view = refl; opening = refl; fresh = tells }, refl),
    )

-- what a compare-exchange leaves is what the core's Take leaves
exchange : (view : View) (purse need seen found : ℕ) → last_low purse view.notes ≡ Some seen →
    purse_after_take view purse need found ≡ either (eqb found seen) (seen - need) found
exchange view purse need seen found last = elim (cases_eq found seen) [
  | inl hit ↦ rw (last, eq-eqb found seen hit) (ap (λ n. n - need) hit)
  | inr miss ↦ rw (last, ne_eqb found seen miss) refl
]

-- Take: a compare-exchange of a purse
pub takes : (opening : Opening) (slots name : ℕ) (me : Me (Unit {0}) Known) (purse need seen : ℕ)
    → me.0.live ≡ true → purse < length (opening_purses opening) → 1 ≤ need → need ≤ seen
    → last_low purse me.0.notes ≡ Some seen
    → Allows (Kept opening) slots name me (1 + purse) (λ n. either (eqb n seen) (seen - need) n)
    (Tells (Take purse need) me)
takes opening slots name me purse need seen live lt some_need covered last s kept homes at fits =
    let core = state_in opening s.words s.views in
    let known = me.0 in
    let found = slice_index s.words (1 + purse) in
    let here : view_of core name ≡ view_in known = view_at s.views name known at in
    let in' : purse < length core.purses = omega (arith, kept.rule.purses.as_many) in
    let same : purse_of core purse ≡ found = sym (purse_word opening.purses s.words purse in') in
    let view = after_take (view_in known) purse need found in
    let told_last : last_low purse (view_of core name).notes ≡ Some seen =
    subst (λ (v : View). last_low purse v.notes ≡ Some seen) (sym here) last in
    let rule = take_keeps purse need core name kept.rule
    (lives opening s name known at live, (in', some_need, rw told_last covered)) in
    let moves = subst (λ (z : View × ℕ). Rule (record core {
      purses = set core.purses purse (purse_after_take z.0 purse need z.1);
      views = set core.views name (after_take z.0 purse need z.1);
    })) (λ i. (here i, same i)) rule in
    let tells = subst (IsFresh known.opening (view_in known) purse) same
    (fresh opening s name known purse kept at live) in (
      known_of view known.opening,
      keeps,
      tt,
      subst (λ n. Kept opening (stepped s (1 + purse) n name me.1 (known_of view known.opening) keeps))
          (exchange (view_in known) purse need seen found last)
          (on_purse opening s name me purse (purse_after_take (view_in known) purse need found) view kept at live
          in' moves),
      (record { view = refl; opening = refl; fresh = tells }, refl),
    )

-- Claim: a fetch-or of one bit
pub claims : (opening : Opening) (slots name : ℕ) (me : Me (Unit {0}) Known) (word bit mask : ℕ)
    → me.0.live ≡ true → word < length (opening_bits opening) → bit < 64 → mask ≡ 2 ^ bit
    → Allows (Kept opening) slots name me (1 + opening.purses + word) (λ n. bit_or n mask) (Tells (Claim word bit) me)
claims opening slots name me word bit mask live lt small is_mask s kept homes at fits =
    let core = state_in opening s.words s.views in
    let known = me.0 in
    let found = slice_index s.words (1 + opening.purses + word) in
    let here : view_of core name ≡ view_in known = view_at s.views name known at in
    let in' : word < length core.bits = omega (arith, kept.rule.bits.as_many) in
    let same : word_of core word ≡ found = sym (bit_word opening.purses s.words word) in
    let view = after_claim (view_in known) word bit found in
    let rule = claim_keeps word bit core name kept.rule (lives opening s name known at live, (in', small)) in
    let moves = subst (λ (z : View × ℕ). Rule (record core {
      bits = set core.bits word (word_after_claim bit z.1);
      views = set core.views name (after_claim z.0 word bit z.1);
    })) (λ i. (here i, same i)) rule in (
      known_of view known.opening,
      keeps,
      tt,
      subst (λ m. Kept opening (stepped s (1 + opening.purses + word) (bit_or found m) name me.1
          (known_of view known.opening) keeps))
          (sym is_mask) (on_bits opening s name me word (word_after_claim bit found) view kept at live moves),
      (record { view = refl; opening = refl; fresh = tt }, refl),
    )

-- Split: a step on word 0
pub splits : (opening : Opening) (name : ℕ) (known : Known) (place : ℕ) → known.live ≡ true → known.from < place →
    place < known.end
    → Splits (Kept opening) name known (kept_part (Split place) known) (given_part (Split place) known)
splits opening name known place live from end s kept at =
    let core = state_in opening s.words s.views in
    let here : view_of core name ≡ view_in known = view_at s.views name known at in
    let old = copy opening s name known kept at live in
    let left = kept_part (Split place) known in
    let right = given_part (Split place) known in
    let rule = split_holds place core name kept.rule (lives opening s name known at live)
    (subst (λ (v : View). v.from < place) (sym here) from) (subst (λ (v : View). place < v.end) (sym here) end) in
    let moves = subst (λ (v : View). Rule (record core {
      views = set core.views name (left_part v place) ++ right_part v place ∷ [];
    })) here rule in
    record {
      rule = rw (map-append view_in (set s.views name left) (right ∷ []), map-set view_in s.views name left) moves;
      copies = All-push (HasCopy (opening_purses opening)) (set s.views name left) right
          (All-set (HasCopy (opening_purses opening)) s.views name left (λ _. old) kept.copies) (λ _. old);
      zero = kept.zero;
    }

-- Join: a step on word 0
pub joins : (opening : Opening) (name : ℕ) (known : Known) (other : ℕ) (next : Known)
    → known.live ≡ true → next.live ≡ true → next.from ≡ known.end
    → Joins (Kept opening) name known other next (both known next) gone
joins opening name known other next live next_live meets s kept at apart there =
    let core = state_in opening s.words s.views in
    let union = both known next in
    let elsewhere : get_elem? s.views other ≡ some next = elim (at_set s.views name other union next there) [
      | inl same ↦ absurd (apart same.0)
      | inr old ↦ old.1
    ] in
    let here : view_of core name ≡ view_in known = view_at s.views name known at in
    let beside : view_of core other ≡ view_in next = view_at s.views other next elsewhere in
    let old = copy opening s name known kept at live in
    let rule = join_keeps other core name kept.rule (
      lives opening s name known at live,
      (
        apart,
        lives opening s other next elsewhere next_live,
        rw (here, beside) meets,
      ),
    ) in
    let moves = subst (λ (z : View × View). Rule (record core {
      views = set (set core.views name (joined z.0 z.1)) other spent;
    })) (λ i. (here i, beside i)) rule in
    record {
      rule = rw (map-set view_in (set s.views name union) other gone, map-set view_in s.views name union) moves;
      copies = All-set (HasCopy (opening_purses opening)) (set s.views name union) other gone
          (λ dead. absurd (false≢true dead))
          (All-set (HasCopy (opening_purses opening)) s.views name union (λ _. old) kept.copies);
      zero = kept.zero;
    }

-- the same, of an event that is known to be that one
pub looks_as : (opening : Opening) (slots name : ℕ) (me : Me (Unit {0}) Known) (purse : ℕ) (event : Event)
    → event ≡ Look purse → me.0.live ≡ true → purse < length (opening_purses opening)
    → Allows (Kept opening) slots name me (1 + purse) (λ n. n) (Tells event me)
looks_as opening slots name me purse event is live lt =
    subst (λ (e : Event). Allows (Kept opening) slots name me (1 + purse) (λ n. n) (Tells e me)) (sym is)
    (looks opening slots name me purse live lt)

pub takes_as : (opening : Opening) (slots name : ℕ) (me : Me (Unit {0}) Known) (purse need seen : ℕ) (event : Event)
    → event ≡ Take purse need → me.0.live ≡ true → purse < length (opening_purses opening) → 1 ≤ need → need ≤ seen
    → last_low purse me.0.notes ≡ Some seen
    → Allows (Kept opening) slots name me (1 + purse) (λ n. either (eqb n seen) (seen - need) n) (Tells event me)
takes_as opening slots name me purse need seen event is live lt some_need covered last =
    subst (λ (e : Event). Allows (Kept opening) slots name me (1 + purse) (λ n. either (eqb n seen) (seen - need) n)
    (Tells e me)) (sym is) (takes opening slots name me purse need seen live lt some_need covered last)

pub claims_as : (opening : Opening) (slots name : ℕ) (me : Me (Unit {0}) Known) (word bit mask place : ℕ)
    (event : Event)
    → event ≡ Claim word bit → place ≡ 1 + opening.purses + word → me.0.live ≡ true
    → word < length (opening_bits opening) → bit < 64 → mask ≡ 2 ^ bit
    → Allows (Kept opening) slots name me place (λ n. bit_or n mask) (Tells event me)
claims_as opening slots name me word bit mask place event is here live lt small is_mask =
    subst (λ (z : Event × ℕ). Allows (Kept opening) slots name me z.1 (λ n. bit_or n mask) (Tells z.0 me))
    (λ i. (sym is i, sym here i)) (claims opening slots name me word bit mask live lt small is_mask)

pub splits_as : (opening : Opening) (name : ℕ) (known : Known) (place : ℕ) (event : Event) → event ≡ Split place
    → known.live ≡ true → known.from < place → place < known.end
    → Splits (Kept opening) name known (kept_part event known) (given_part event known)
splits_as opening name known place event is live from end =
    subst (λ (e : Event). Splits (Kept opening) name known (kept_part e known) (given_part e known)) (sym is)
    (splits opening name known place live from end)
