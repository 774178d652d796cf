-- A log of notes in buckets: what a look along a chain finds, and how one more note is chained.
use Rattle.std.proofs.Common.{◌≡◌, ◌≢◌, ℕ, zero, suc, ◌+◌, ◌<◌, ◌≤◌, false, cond, eqb, ◌&&◌, List, [], ◌∷◌, ◌++◌}
use Rattle.std.proofs.Common.{length, map, get_or, take, set, Some, refl, sym, ap, ◌∙◌, inl, inr, arith}
use Rattle.std.proofs.Common.{add-one, length-set, get_or-set_same, get_or-set_other}
use Rattle.std.proofs.Math.Seq.{take-suc, take-length}
use Rattle.std.proofs.lemmas.Bool.{cases_eq, cases_lt, eq-eqb, ne_eqb, and_right}
use Rattle.std.proofs.lemmas.List.{map_push, reverse-append, get_or_append_left, get_or_push, length_push}
use Rattle.sx_event.specs.declared.tables.Noted.{Noted}
use Rattle.sx_event.specs.Buckets.{no_note, entry_of, newest_first, bucket_of, bucket_at, newest_in, AreChained, AreKept}
use Rattle.sx_event.specs.Tables.{value_in}

-- ---- a look

-- a note at the end of the log is the newest
newest_first_push : (log : List Noted) (note : Noted) → newest_first (log ++ note ∷ []) ≡ entry_of note ∷ newest_first log
newest_first_push log note = rw (map_push entry_of log note, reverse-append (map entry_of log) (entry_of note ∷ [])) refl

-- of the first n + 1 notes the last one counts, or else the first n do
pub last_or_before : (log : List Noted) (n table purse : ℕ) → n < length log →
    value_in (newest_first (take (suc n) log)) table purse ≡
    cond (eqb table (get_or log n no_note).table && eqb purse (get_or log n no_note).purse)
    (Some (get_or log n no_note).value) (value_in (newest_first (take n log)) table purse)
last_or_before log n table purse in' =
    rw (take-suc log n no_note in', newest_first_push (take n log) (get_or log n no_note)) refl

-- the notes after the newest one in the bucket of a purse have nothing of that purse
pub skip : (buckets : ℕ) (log : List Noted) (n table purse : ℕ) → n ≤ length log →
    value_in (newest_first (take (newest_in buckets log n (bucket_of buckets purse)) log)) table purse ≡
    value_in (newest_first (take n log)) table purse
skip buckets log zero table purse in' = refl
skip buckets log (suc n) table purse in' = elim (cases_eq (bucket_at buckets log n) (bucket_of buckets purse)) [
  | inl same ↦ rw (eq-eqb (bucket_at buckets log n) (bucket_of buckets purse) same) refl
  | inr other ↦
      let apart : purse ≢ (get_or log n no_note).purse = λ is. other (ap (bucket_of buckets) (sym is)) in
      rw (
        ne_eqb (bucket_at buckets log n) (bucket_of buckets purse) other,
        last_or_before log n table purse (omega arith),
        ne_eqb purse (get_or log n no_note).purse apart,
        and_right (eqb table (get_or log n no_note).table) false refl,
      ) (skip buckets log n table purse (omega arith))
]

-- the newest note in a bucket is one of these notes
newest_in_le : (buckets : ℕ) (log : List Noted) (n bucket : ℕ) → newest_in buckets log n bucket ≤ n
newest_in_le buckets log zero bucket = omega arith
newest_in_le buckets log (suc n) bucket = elim (cases_eq (bucket_at buckets log n) bucket) [
  | inl same ↦ rw (eq-eqb (bucket_at buckets log n) bucket same) (omega arith)
  | inr other ↦ rw (ne_eqb (bucket_at buckets log n) bucket other) (omega (arith, newest_in_le buckets log n bucket))
]

-- and it is in the bucket
newest_in_its : (buckets : ℕ) (log : List Noted) (n bucket place : ℕ) → newest_in buckets log n bucket ≡ suc place
    → bucket_at buckets log place ≡ bucket
newest_in_its buckets log zero bucket place is = absurd (omega arith)
newest_in_its buckets log (suc n) bucket place is = elim (cases_eq (bucket_at buckets log n) bucket) [
  | inl same ↦
      let here : place ≡ n = omega (arith, rw (eq-eqb (bucket_at buckets log n) bucket same) at is) in
      rw here same
  | inr other ↦
      newest_in_its buckets log n bucket place (rw (ne_eqb (bucket_at buckets log n) bucket other) at is)
]

-- on the way along the chain of a purse, at 1 + a place, or at 0 at the end: no note after it was of table and purse
pub record IsOnWay (buckets : ℕ) (log : List Noted) (table purse next : ℕ) : Type 0 where
  pub within : next ≤ length log
  pub its : (place : ℕ) → next ≡ suc place → bucket_at buckets log place ≡ bucket_of buckets purse
  pub same : value_in (newest_first (take next log)) table purse ≡ value_in (newest_first log) table purse

-- the newest note among the first n is on the way, if no later one was of table and purse
way_from : (buckets : ℕ) (log : List Noted) (table purse n : ℕ) → n ≤ length log
    → value_in (newest_first (take n log)) table purse ≡ value_in (newest_first log) table purse
    → IsOnWay buckets log table purse (newest_in buckets log n (bucket_of buckets purse))
way_from buckets log table purse n in' same = record {
  within = omega (arith, newest_in_le buckets log n (bucket_of buckets purse));
  its = newest_in_its buckets log n (bucket_of buckets purse);
  same = skip buckets log n table purse in' ∙ same;
}

-- the way begins at the head of the bucket
pub starts : (heads : List ℕ) (log : List Noted) (table purse bucket : ℕ) → AreChained heads log (length log)
    → bucket ≡ bucket_of (length heads) purse → bucket < length heads
    → IsOnWay (length heads) log table purse (get_or heads bucket 0)
starts heads log table purse bucket chained is in' =
    rw (chained.newest bucket in', is) (way_from (length heads) log table purse (length log) (omega arith)
    (rw (take-length log) refl))

-- it goes on from a note that is of another table or purse
pub goes_on : (heads : List ℕ) (log : List Noted) (table purse next place : ℕ) → AreChained heads log (length log)
    → IsOnWay (length heads) log table purse next → next ≡ suc place
    → (eqb table (get_or log place no_note).table && eqb purse (get_or log place no_note).purse) ≡ false
    → IsOnWay (length heads) log table purse (get_or log place no_note).before
goes_on heads log table purse next place chained on is not' =
    let in' : place < length log = omega (arith, on.within) in
    let same = rw (is, last_or_before log place table purse in', not') at on.same in
    rw (chained.before place in', on.its place is)
    (way_from (length heads) log table purse place (omega arith) same)

-- and comes nearer to the first note
pub comes_nearer : (heads : List ℕ) (log : List Noted) (place : ℕ) → AreChained heads log (length log)
    → place < length log → (get_or log place no_note).before ≤ place
comes_nearer heads log place chained in' =
    rw (chained.before place in') (newest_in_le (length heads) log place (bucket_at (length heads) log place))

-- ---- one more note

-- which note is the newest depends on these notes alone
newest_in_same : (buckets : ℕ) (log after : List Noted) (n bucket : ℕ) →
    ((place : ℕ) → place < n → get_or after place no_note ≡ get_or log place no_note)
    → newest_in buckets after n bucket ≡ newest_in buckets log n bucket
newest_in_same buckets log after zero bucket same = refl
newest_in_same buckets log after (suc n) bucket same =
    rw (same n (omega arith), newest_in_same buckets log after n bucket (λ place in'. same place (omega arith))) refl

-- the next note has the head of its bucket before it, and is the head from now on
pub next_chained : (heads : List ℕ) (log after : List Noted) (n bucket : ℕ) → AreChained heads log n
    → ((place : ℕ) → place < n → get_or after place no_note ≡ get_or log place no_note)
    → bucket < length heads → bucket_at (length heads) after n ≡ bucket
    → (get_or after n no_note).before ≡ get_or heads bucket 0
    → AreChained (set heads bucket (suc n)) after (suc n)
next_chained heads log after n bucket chained same in' its before =
    let count = length-set heads bucket (suc n) in
    record {
      newest = λ b b_in. elim (cases_eq b bucket) [
        | inl here ↦ rw (
          here,
          get_or-set_same heads bucket (suc n) 0 in',
          count,
          eq-eqb (bucket_at (length heads) after n) bucket its,
        ) refl
        | inr other ↦
            let before' = newest_in_same (length heads) log after n b same in
            let not' = ne_eqb (bucket_at (length heads) after n) b (λ is. other (sym is ∙ its)) in
            let now : newest_in (length heads) after (suc n) b ≡ newest_in (length heads) after n b = rw not' refl in
            get_or-set_other heads bucket b (suc n) 0 other ∙ chained.newest b (omega (arith, count))
            ∙ sym (ap (λ (m : ℕ). newest_in m after (suc n) b) count ∙ now ∙ before')
      ];
      before = λ place place_in.
          let to = ap (λ (m : ℕ). newest_in m after place (bucket_at m after place)) count in
          elim (cases_lt place n) [
            | inl early ↦
                let its' = ap (λ (x : Noted). bucket_of (length heads) x.purse) (same place early) in
                ap (λ (x : Noted). x.before) (same place early) ∙ chained.before place early
                ∙ sym (to ∙ ap (newest_in (length heads) after place) its'
                ∙ newest_in_same (length heads) log after place (bucket_at (length heads) log place)
                (λ p p_in. same p (omega arith)))
            | inr late ↦
                let here : place ≡ n = omega arith in
                ap (λ (p : ℕ). (get_or after p no_note).before) here ∙ before ∙ chained.newest bucket in'
                ∙ sym (to ∙ ap (λ (p : ℕ). newest_in (length heads) after p (bucket_at (length heads) after p)) here
                ∙ ap (newest_in (length heads) after n) its ∙ newest_in_same (length heads) log after n bucket same)
          ];
    }

-- ---- what holds of the fields

-- a note at the end of the log
pub push_kept : (heads : List ℕ) (log : List Noted) (note : Noted) (bucket : ℕ) → AreKept heads log
    → bucket ≡ bucket_of (length heads) note.purse → bucket < length heads → note.before ≡ get_or heads bucket 0
    → AreKept (set heads bucket (length log + 1)) (log ++ note ∷ [])
push_kept heads log note bucket kept is in' before =
    let last : get_or (log ++ note ∷ []) (length log) no_note ≡ note =
    get_or_push log note no_note (length log) refl in
    record {
      chained = rw (length_push log note, add-one) (next_chained heads log (log ++ note ∷ []) (length log) bucket kept.chained
          (λ place p_in. get_or_append_left log (note ∷ []) no_note place p_in) in'
          (ap (λ (x : Noted). bucket_of (length heads) x.purse) last ∙ sym is)
          (ap (λ (x : Noted). x.before) last ∙ before));
      empty = λ none. absurd (omega (arith, length-set heads bucket (length log + 1)));
    }

-- a note of the log that is chained anew
pub set_chained : (heads : List ℕ) (log : List Noted) (place bucket : ℕ) (note : Noted) → AreChained heads log place
    → place < length log → bucket ≡ bucket_of (length heads) note.purse → bucket < length heads
    → note.before ≡ get_or heads bucket 0
    → AreChained (set heads bucket (place + 1)) (set log place note) (place + 1)
set_chained heads log place bucket note chained p_in is in' before =
    let here : get_or (set log place note) place no_note ≡ note = get_or-set_same log place note no_note p_in in
    rw (add-one) (next_chained heads log (set log place note) place bucket chained
    (λ p early. get_or-set_other log place p note no_note (λ same. absurd (omega arith))) in'
    (ap (λ (x : Noted). bucket_of (length heads) x.purse) here ∙ sym is)
    (ap (λ (x : Noted). x.before) here ∙ before))
