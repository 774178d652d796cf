-- What a reservation has found so far, and each further take.
use Rattle.std.proofs.Common.{◌≡◌, ◌≢◌, ℕ, ◌<◌, ◌≤◌, List, [], ◌∷◌, ◌++◌, length, map, get_or, All, Some}
use Rattle.std.proofs.Common.{refl, sym, ap, ◌∙◌, subst, arith, length-append}
use Rattle.std.proofs.lemmas.Bool.{eq-eqb, ne_eqb}
use Rattle.std.proofs.lemmas.List.{append_assoc, map-append, get_or_append_left, get_or_push}
use Rattle.std.proofs.lemmas.List.Elements.{All-push}
use Rattle.sx_event.specs.declared.marks.Claim.TheVariants.{Debit}
use Rattle.sx_event.specs.declared.marks.Note.{Note}
use Rattle.sx_event.specs.declared.marks.Note.TheVariants.{Low}
use Rattle.sx_event.specs.View.{View, with_claim, with_note, last_low}
use Rattle.sx_event.specs.Step.{after_look, after_take}
use Rattle.sx_event.proofs.Agreeing.{last_low-append}
use Rattle.sx_shard.specs.Models.{Shown, Seated, IsOf}
use Rattle.sx_shard.specs.Plays.{IsBelow, IsFresh}
use Rattle.sx_shard.specs.Reserve.{with_lows, Falls, Finds, Reserves, Refuses, after_takes}

-- the seat has noted these values, of which the last is the one it saw last
pub record Tries (shard : Shown) (old : View) (purse need seen : ℕ) (seat : Seated) : Type 0 where
  pub of : IsOf shard seat
  pub earlier : List ℕ
  pub finds : Finds need earlier seen
  pub noted : seat.view ≡ with_lows old purse (earlier ++ seen ∷ [])
  pub fresh : IsFresh shard.purses old purse seen

-- one more note
lows_push : (view : View) (purse : ℕ) (values : List ℕ) (value : ℕ) →
    with_lows view purse (values ++ value ∷ []) ≡ with_note (with_lows view purse values) (Low purse value)
lows_push view purse values value =
    let same : view.notes ++ map (Low purse) (values ++ value ∷ []) ≡ (view.notes ++ map (Low purse) values) ++ Low
    purse value ∷ [] =
    ap (λ l. view.notes ++ l) (map-append (Low purse) values (value ∷ []))
    ∙ sym (append_assoc view.notes (map (Low purse) values) (Low purse value ∷ [])) in
    ap (λ l. record view { notes = l }) same

falls_push : (values : List ℕ) (value next : ℕ) → Falls (values ++ value ∷ []) → next < value →
    Falls ((values ++ value ∷ []) ++ next ∷ [])
falls_push [] value next falls lt = (lt, tt)
falls_push (x ∷ []) value next falls lt = (falls.0, (lt, tt))
falls_push (x ∷ y ∷ values) value next falls lt = (falls.0, falls_push (y ∷ values) value next falls.1 lt)

-- the last Low note of a purse
last_note : (purse seen : ℕ) (notes : List Note) → last_low purse (notes ++ Low purse seen ∷ []) ≡ Some seen
last_note purse seen notes = last_low-append purse notes (Low purse seen ∷ []) ∙ rw (eq-eqb purse purse refl) refl

-- the value that was seen last
pub last_seen : (shard : Shown) (old : View) (purse need seen : ℕ) (seat : Seated) →
    Tries shard old purse need seen seat
    → last_low purse seat.view.notes ≡ Some seen
last_seen shard old purse need seen seat tries =
    ap (λ (v : View). last_low purse v.notes) (tries.noted ∙ lows_push old purse tries.earlier seen)
    ∙ last_note purse seen (with_lows old purse tries.earlier).notes

-- after the look
pub looked : (shard : Shown) (old after : Seated) (purse need seen : ℕ) → IsOf shard after
    → after.view ≡ after_look old.view purse seen → IsFresh shard.purses old.view purse seen
    → Tries shard old.view purse need seen after
looked shard old after purse need seen of view fresh = record {
  of = of;
  earlier = [];
  finds = record { falls = tt; enough = λ k d none. absurd (omega arith) };
  noted = view;
  fresh = fresh;
}

-- what is less than all notes is less than the first of them
notes_before : (purse found : ℕ) (notes more last : List Note) → All (IsBelow purse found) ((notes ++ more) ++ last) →
    All (IsBelow purse found) notes
notes_before purse found notes more last all k d lt =
    let inner : k < length (notes ++ more) = omega (arith, length-append notes more) in
    let place : get_or ((notes ++ more) ++ last) k d ≡ get_or notes k d =
    get_or_append_left (notes ++ more) last d k inner ∙ get_or_append_left notes more d k lt in
    subst (IsBelow purse found) place (all k d (omega (arith, length-append (notes ++ more) last)))

-- a take that is won
pub won : (shard : Shown) (old : View) (before after : Seated) (purse need seen found : ℕ)
    → Tries shard old purse need seen before → need ≤ seen → found ≡ seen
    → after.view ≡ after_take before.view purse need found → Reserves old purse need after.view
won shard old before after purse need seen found tries covered hit view =
    let last = last_seen shard old purse need seen before tries in
    let same : after.view ≡ with_claim before.view (Debit purse need) = view ∙ rw (last, eq-eqb found seen hit) refl in
    record {
      earlier = tries.earlier;
      last = seen;
      finds = tries.finds;
      covered = covered;
      leaves = same ∙ ap (λ v. with_claim v (Debit purse need)) tries.noted;
    }

-- a take that is lost found less than was seen
pub lost : (shard : Shown) (old : View) (before after : Seated) (purse need seen found : ℕ)
    → Tries shard old purse need seen before → need ≤ seen → found ≢ seen → IsOf shard after
    → after.view ≡ after_take before.view purse need found → IsFresh shard.purses before.view purse found
    → Tries shard old purse need found after × (found < seen)
lost shard old before after purse need seen found tries covered miss of view fresh =
    let last = last_seen shard old purse need seen before tries in
    let same : after.view ≡ with_note before.view (Low purse found) = view ∙ rw (last, ne_eqb found seen miss) refl in
    let sits : before.view ≡ with_note (with_lows old purse tries.earlier) (Low purse seen) =
    tries.noted ∙ lows_push old purse tries.earlier seen in
    let notes = (with_lows old purse tries.earlier).notes in
    let now : IsFresh shard.purses (with_note (with_lows old purse tries.earlier) (Low purse seen)) purse found =
    subst (λ (v : View). IsFresh shard.purses v purse found) sits fresh in
    let at : get_or (notes ++ Low purse seen ∷ []) (length notes) (Low purse seen) ≡ Low purse seen =
    get_or_push notes (Low purse seen) (Low purse seen) (length notes) refl in
    let under : found ≤ seen = subst (IsBelow purse found) at
    (now.notes (length notes) (Low purse seen) (omega (arith, length-append notes (Low purse seen ∷ [])))) refl in
    let less : found < seen = omega (arith, miss) in (
      record {
        of = of;
        earlier = tries.earlier ++ seen ∷ [];
        finds = record {
          falls = falls_push tries.earlier seen found tries.finds.falls less;
          enough = All-push (λ value. need ≤ value) tries.earlier seen tries.finds.enough covered;
        };
        noted = same ∙ ap (λ v. with_note v (Low purse found)) tries.noted
            ∙ sym (lows_push old purse (tries.earlier ++ seen ∷ []) found);
        fresh = record {
          debits = now.debits;
          notes = notes_before purse found old.notes (map (Low purse) tries.earlier) (Low purse seen ∷ []) now.notes;
        };
      },
      less,
    )

-- values that fall are found by a look and by takes that are lost
pub looks_and_takes : (view : View) (purse need first : ℕ) (rest : List ℕ) → Falls (first ∷ rest) →
    with_lows view purse (first ∷ rest) ≡ after_takes purse need (after_look view purse first) rest
looks_and_takes view purse need first [] falls = refl
looks_and_takes view purse need first (next ∷ rest) falls =
    let seen = after_look view purse first in
    let miss : next ≢ first = λ same. absurd (omega (arith, falls.0)) in
    let found : after_take seen purse need next ≡ after_look seen purse next =
    rw (last_note purse first view.notes, ne_eqb next first miss) refl in
    ap (λ l. record view { notes = l })
    (sym (append_assoc view.notes (Low purse first ∷ []) (map (Low purse) (next ∷ rest))))
    ∙ looks_and_takes seen purse need next rest falls.1
    ∙ ap (λ (v : View). after_takes purse need v rest) (sym found)

-- a take that finds the value that was seen last
pub last_take_wins : (view : View) (purse need : ℕ) (earlier : List ℕ) (last : ℕ) →
    after_take (with_lows view purse (earlier ++ last ∷ [])) purse need last
    ≡ with_claim (with_lows view purse (earlier ++ last ∷ [])) (Debit purse need)
last_take_wins view purse need earlier last =
    let sits = lows_push view purse earlier last in
    let noted = ap (λ (v : View). last_low purse v.notes) sits ∙
    last_note purse last (with_lows view purse earlier).notes in
    rw (noted, eq-eqb last last refl) refl

-- the value that was seen last
seen_last : (view : View) (purse : ℕ) (earlier : List ℕ) (last : ℕ) →
    last_low purse (with_lows view purse (earlier ++ last ∷ [])).notes ≡ Some last
seen_last view purse earlier last =
    ap (λ (v : View). last_low purse v.notes) (lows_push view purse earlier last)
    ∙ last_note purse last (with_lows view purse earlier).notes

pub reserves : (view after : View) (purse need : ℕ) → Reserves view purse need after →
    (seen : ℕ) × (last_low purse after.notes ≡ Some seen) × (need ≤ seen)
    × (after.claims ≡ view.claims ++ Debit purse need ∷ [])
reserves view after purse need does = (
  does.last,
  ap (λ (v : View). last_low purse v.notes) does.leaves ∙ seen_last view purse does.earlier does.last,
  does.covered,
  ap (λ (v : View). v.claims) does.leaves,
)

pub refuses : (view after : View) (purse need seen : ℕ) → Refuses view purse need seen after →
    (last_low purse after.notes ≡ Some seen) × (seen < need) × (after.claims ≡ view.claims)
refuses view after purse need seen does = (
  ap (λ (v : View). last_low purse v.notes) does.leaves ∙ seen_last view purse does.earlier seen,
  does.short,
  ap (λ (v : View). v.claims) does.leaves,
)

pub tries : (need first last : ℕ) (rest : List ℕ) → Finds need (first ∷ rest) last → need ≤ first
tries need first last rest finds = finds.enough 0 0 (omega arith)
