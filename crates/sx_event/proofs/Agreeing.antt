-- What is known of the purses agrees with the notes, where views change.
use Rattle.std.proofs.Common.{◌≡◌, ◌≢◌, ℕ, ◌+◌, ◌<◌, true, cond, eqb, ◌&&◌, List, [], ◌∷◌, ◌++◌, length, get_or, set}
use Rattle.std.proofs.Common.{Option, None, Some, refl, sym, ap, ◌∙◌, inl, inr, arith, length-set, get_or-set_same}
use Rattle.std.proofs.Common.{get_or-set_other}
use Rattle.std.proofs.lemmas.Bool.{cases_eq, cases_lt, eq-eqb, ne_eqb, false≢true}
use Rattle.std.proofs.lemmas.List.{get_or_append_left, get_or_push, length_push}
use Rattle.sx_event.specs.declared.marks.Note.{Note}
use Rattle.sx_event.specs.declared.marks.Note.TheVariants.{Low, Set}
use Rattle.sx_event.specs.View.{View, spent, opened, with_note, or_else, low_in, last_low}
use Rattle.sx_event.specs.Step.{joined}
use Rattle.sx_event.specs.Chains.{Chained, IsOpen, seen_last}
use Rattle.sx_event.specs.Agree.{Agree}
use Rattle.sx_event.proofs.Sums.{live_is_within}

-- ---- the last Low note

or_else_none : (o : Option ℕ) → o ≡ or_else o None
or_else_none None = refl
or_else_none (Some value) = refl

or_else_assoc : (a b c : Option ℕ) → or_else (or_else a b) c ≡ or_else a (or_else b c)
or_else_assoc (Some value) b c = refl
or_else_assoc None b c = refl

pub last_low-append : (purse : ℕ) (notes more : List Note) →
    last_low purse (notes ++ more) ≡ or_else (last_low purse more) (last_low purse notes)
last_low-append purse [] more = or_else_none (last_low purse more)
last_low-append purse (note ∷ notes) more =
    rw (last_low-append purse notes more)
    (or_else_assoc (last_low purse more) (last_low purse notes) (low_in purse note))

after_set : (purse : ℕ) (notes : List Note) (word bit : ℕ) →
    last_low purse (notes ++ Set word bit ∷ []) ≡ last_low purse notes
after_set purse notes word bit = last_low-append purse notes (Set word bit ∷ [])

after_low : (purse : ℕ) (notes : List Note) (of value : ℕ) →
    last_low purse (notes ++ Low of value ∷ []) ≡ cond (eqb of purse) (Some value) (last_low purse notes)
after_low purse notes of value = last_low-append purse notes (Low of value ∷ []) ∙ elim (cases_eq of purse) [
  | inl same ↦ rw (eq-eqb of purse same) refl
  | inr apart ↦ rw (ne_eqb of purse apart) refl
]

-- ---- views that change

-- where views stay live with the same last Low notes, or are no longer live
pub agree_by : (views views' : List View) (lows : Chained) → length views' ≡ length views
    → ((k : ℕ) → (get_or views' k spent).live ≡ true → (get_or views k spent).live ≡ true)
    → ((k purse : ℕ) → (get_or views' k spent).live ≡ true →
    last_low purse (get_or views' k spent).notes ≡ last_low purse (get_or views k spent).notes)
    → Agree views lows → Agree views' lows
agree_by views views' lows as_many live same agree = record {
  as_many = agree.as_many ∙ sym as_many;
  is_open = λ k here. agree.is_open k (live k here);
  seen = λ k purse here. agree.seen k purse (live k here) ∙ sym (same k purse here);
}

-- one view changes
pub agree_set : (views : List View) (name : ℕ) (view : View) (lows : Chained) → (get_or views name spent).live ≡ true
    → ((purse : ℕ) → last_low purse view.notes ≡ last_low purse (get_or views name spent).notes) →
    Agree views lows → Agree (set views name view) lows
agree_set views name view lows live same agree =
    let lt = live_is_within views name live in
    agree_by views (set views name view) lows (length-set views name view)
    (λ k here. elim (cases_eq k name) [
      | inl is ↦ rw is live
      | inr apart ↦ ap (λ (v : View). v.live) (sym (get_or-set_other views name k view spent apart)) ∙ here
    ])
    (λ k purse here. elim (cases_eq k name) [
      | inl is ↦ rw (is, get_or-set_same views name view spent lt) (same purse)
      | inr apart ↦ ap (λ (v : View). last_low purse v.notes) (get_or-set_other views name k view spent apart)
    ])
    agree

-- a view notes that a bit is set
pub agree_note_set : (views : List View) (name word bit : ℕ) (lows : Chained) →
    (get_or views name spent).live ≡ true → Agree views lows
    → Agree (set views name (with_note (get_or views name spent) (Set word bit))) lows
agree_note_set views name word bit lows live agree =
    agree_set views name (with_note (get_or views name spent) (Set word bit)) lows live
    (λ purse. after_set purse (get_or views name spent).notes word bit) agree

-- a view notes the value of a purse
pub agree_low : (views : List View) (name of value : ℕ) (lows lows' : Chained) →
    (get_or views name spent).live ≡ true → length lows'.links ≡ length lows.links
    → ((k : ℕ) → IsOpen lows k → IsOpen lows' k)
    → ((k purse : ℕ) → IsOpen lows k →
    seen_last lows' k purse ≡ cond (eqb name k && eqb of purse) (Some value) (seen_last lows k purse))
    → Agree views lows → Agree (set views name (with_note (get_or views name spent) (Low of value))) lows'
agree_low views name of value lows lows' live count open' put agree =
    let old = get_or views name spent in
    let view = with_note old (Low of value) in
    let lt = live_is_within views name live in
    let live_before : (k : ℕ) → (get_or (set views name view) k spent).live ≡ true →
    (get_or views k spent).live ≡ true = λ k here. elim (cases_eq k name) [
      | inl is ↦ rw is live
      | inr apart ↦ ap (λ (v : View). v.live) (sym (get_or-set_other views name k view spent apart)) ∙ here
    ] in
    record {
      as_many = count ∙ agree.as_many ∙ sym (length-set views name view);
      is_open = λ k here. open' k (agree.is_open k (live_before k here));
      seen = λ k purse here.
          let is_put = put k purse (agree.is_open k (live_before k here)) in
          let was = agree.seen k purse (live_before k here) in
          elim (cases_eq name k) [
            | inl is ↦
                let at : get_or (set views name view) k spent ≡ view =
                rw (← is) (get_or-set_same views name view spent lt) in
                let old_is : last_low purse (get_or views k spent).notes ≡ last_low purse old.notes = rw is refl in
                rw (at, after_low purse old.notes of value, is_put, eq-eqb name k is, was, old_is) refl
            | inr apart ↦
                let at : get_or (set views name view) k spent ≡ get_or views k spent =
                get_or-set_other views name k view spent (λ e. apart (sym e)) in
                rw (at, is_put, ne_eqb name k apart) was
          ];
    }

-- a view is made
pub agree_open : (views : List View) (from end : ℕ) (lows lows' : Chained) → length lows'.links ≡ length lows.links + 1
    → ((k : ℕ) → IsOpen lows k → IsOpen lows' k) → IsOpen lows' (length lows.links)
    → ((k purse : ℕ) → IsOpen lows k → seen_last lows' k purse ≡ seen_last lows k purse) →
    ((purse : ℕ) → seen_last lows' (length lows.links) purse ≡ None)
    → Agree views lows → Agree (views ++ opened from end ∷ []) lows'
agree_open views from end lows lows' count open' fresh same none agree =
    let new = opened from end in
    let n = length views in
    let at_old : (k : ℕ) → k < n → get_or (views ++ new ∷ []) k spent ≡ get_or views k spent =
    λ k in'. get_or_append_left views (new ∷ []) spent k in' in
    let at_new : get_or (views ++ new ∷ []) n spent ≡ new = get_or_push views new spent n refl in
    let within : (k : ℕ) → (get_or (views ++ new ∷ []) k spent).live ≡ true → k < n + 1 =
    λ k here. omega (arith, live_is_within (views ++ new ∷ []) k here, length_push views new) in
    record {
      as_many = omega (arith, count, agree.as_many, length_push views new);
      is_open = λ k here. elim (cases_lt k n) [
        | inl in' ↦ open' k (agree.is_open k (ap (λ (v : View). v.live) (sym (at_old k in')) ∙ here))
        | inr past ↦ let is : k ≡ length lows.links = omega (arith, within k here, agree.as_many) in rw is fresh
      ];
      seen = λ k purse here. elim (cases_lt k n) [
        | inl in' ↦
            let was_live = ap (λ (v : View). v.live) (sym (at_old k in')) ∙ here in
            rw (at_old k in', same k purse (agree.is_open k was_live)) (agree.seen k purse was_live)
        | inr past ↦
            let is : k ≡ length lows.links = omega (arith, within k here, agree.as_many) in
            let is' : k ≡ n = omega (arith, within k here) in
            let empty : last_low purse (get_or (views ++ new ∷ []) k spent).notes ≡ None = rw (is', at_new) refl in
            rw empty (rw is (none purse))
      ];
    }

-- a view takes in another
pub agree_join : (views : List View) (name other : ℕ) (lows lows' : Chained) →
    (get_or views name spent).live ≡ true → (get_or views other spent).live ≡ true → other ≢ name
    → length lows'.links ≡ length lows.links → ((k : ℕ) → k ≢ other → IsOpen lows k → IsOpen lows' k)
    → ((k purse : ℕ) → k ≢ other → IsOpen lows k → seen_last lows' k purse
    ≡ cond (eqb name k) (or_else (seen_last lows other purse) (seen_last lows name purse)) (seen_last lows k purse))
    → Agree views lows → Agree (set (set views name (joined (get_or views name spent) (get_or views other spent)))
    other spent) lows'
agree_join views name other lows lows' live other_live apart count open' put agree =
    let v = get_or views name spent in
    let o = get_or views other spent in
    let both = joined v o in
    let after = set (set views name both) other spent in
    let lt = live_is_within views name live in
    let lt' : other < length (set views name both) =
    omega (arith, live_is_within views other other_live, length-set views name both) in
    let at_other : get_or after other spent ≡ spent = get_or-set_same (set views name both) other spent spent lt' in
    let at_name : get_or after name spent ≡ both =
    get_or-set_other (set views name both) other name spent spent (λ e. apart (sym e)) ∙
    get_or-set_same views name both spent lt in
    let at_third : (k : ℕ) → k ≢ other → k ≢ name → get_or after k spent ≡ get_or views k spent =
    λ k one two. get_or-set_other (set views name both) other k spent spent one ∙
    get_or-set_other views name k both spent two in
    let not_other : (k : ℕ) → (get_or after k spent).live ≡ true → k ≢ other =
    λ k here is. false≢true (ap (λ (u : View). u.live) (sym at_other) ∙
    (ap (λ (j : ℕ). (get_or after j spent).live) (sym is) ∙ here)) in
    let was_live : (k : ℕ) → (get_or after k spent).live ≡ true → (get_or views k spent).live ≡ true =
    λ k here. elim (cases_eq k name) [
      | inl is ↦ rw is live
      | inr third ↦ ap (λ (u : View). u.live) (sym (at_third k (not_other k here) third)) ∙ here
    ] in
    record {
      as_many = omega (
        arith,
        count,
        agree.as_many,
        length-set (set views name both) other spent,
        length-set views name both,
      );
      is_open = λ k here. open' k (not_other k here) (agree.is_open k (was_live k here));
      seen = λ k purse here.
          let is_put = put k purse (not_other k here) (agree.is_open k (was_live k here)) in
          elim (cases_eq name k) [
            | inl is ↦
                let at : get_or after k spent ≡ both = rw (← is) at_name in
                rw (at, is_put, eq-eqb name k is, agree.seen other purse other_live, agree.seen name purse live)
                (sym (last_low-append purse v.notes o.notes))
            | inr third ↦
                rw (at_third k (not_other k here) (λ e. third (sym e)), is_put, ne_eqb name k third)
                (agree.seen k purse (was_live k here))
          ];
    }
