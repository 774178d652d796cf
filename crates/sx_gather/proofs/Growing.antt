-- Views with more claims and notes: what a step adds, one step after another, and that no note is lost.
use Rattle.std.proofs.Common.{◌≡◌, ◌≢◌, ℕ, List, [], ◌∷◌, ◌++◌, map, Some, inl, inr, refl, sym}
use Rattle.std.proofs.Common.{ap, ap₂, subst, ◌∙◌, append_assoc, append-nil}
use Rattle.std.specs.Prelude.{◌==◌, if◌then◌else◌, slice_get, slice_set}
use Rattle.std.specs.List.{Contains}
use Rattle.std.proofs.lemmas.Bool.{cases_eq, eq-eqb, cases_Bool, eqb-true}
use Rattle.std.proofs.lemmas.List.Elements.{Contains-append_left, Contains-append_right}
use Rattle.std.proofs.lemmas.Option.{slice_get_within}
use Rattle.sx_event.specs.declared.marks.Claim.{Claim}
use Rattle.sx_event.specs.declared.marks.Note.{Note}
use Rattle.sx_event.specs.declared.marks.Note.TheVariants.{Low}
use Rattle.sx_event.specs.View.{View, with_claim, with_note}
use Rattle.sx_shard.specs.Models.{Seated}
use Rattle.sx_shard.specs.Reserve.{with_lows}
use Rattle.sx_gather.specs.Passes.{HasNoted, view_at}
use Rattle.sx_gather.specs.Submit.{Grow, grown}
use Rattle.sx_gather.proofs.Seats.{view_is, view_other, view_set}

-- what stands at one shard alone
abbrev pub at_shard : {X : Type 0} → ℕ → List X → ℕ → List X
at_shard at list shard = if at == shard then list else []

here : {X : Type 0} (at shard : ℕ) (list : List X) → shard ≡ at → at_shard at list shard ≡ list
here at shard list same = rw (eq-eqb at shard (sym same)) refl

elsewhere : {X : Type 0} (at shard : ℕ) (list : List X) → shard ≢ at → at_shard at list shard ≡ []
elsewhere at shard list apart = elim (cases_Bool (at == shard)) [
  | inl e ↦ absurd (apart (sym (eqb-true at shard e)))
  | inr e ↦ rw e refl
]

pub at_itself : {X : Type 0} (at : ℕ) (list : List X) → at_shard at list at ≡ list
at_itself at list = here at at list refl

-- ---- one step

unchanged : (view : View) → view ≡ grown view [] []
unchanged view =
    ap₂ (λ (claims : List Claim) (notes : List Note). record view { claims = claims; notes = notes })
    (sym (append-nil view.claims)) (sym (append-nil view.notes))

-- one seat has more claims and notes, and the others are as they were
pub grow_one : (seats : List Seated) (at : ℕ) (old seat : Seated) (claims : List Claim) (notes : List Note)
    → slice_get seats at ≡ Some old → seat.view ≡ grown old.view claims notes
    → Grow seats (slice_set seats at seat) (at_shard at claims) (at_shard at notes)
grow_one seats at old seat claims notes stands is shard =
    elim (cases_eq shard at) [
      | inl e ↦
          ap (view_at (slice_set seats at seat)) e
          ∙ view_set seats at seat (slice_get_within seats at old stands)
          ∙ is
          ∙ ap (λ (view : View). grown view claims notes)
          (sym (view_is seats at old stands) ∙ ap (view_at seats) (sym e))
          ∙ ap₂ (grown (view_at seats shard)) (sym (here at shard claims e)) (sym (here at shard notes e))
      | inr apart ↦
          view_other seats at shard seat apart
          ∙ unchanged (view_at seats shard)
          ∙ ap₂ (grown (view_at seats shard)) (sym (elsewhere at shard claims apart))
          (sym (elsewhere at shard notes apart))
    ]

-- no claims at one shard are none at all
none_at : {X : Type 0} (at shard : ℕ) → at_shard {X = X} at [] shard ≡ []
none_at {X} at shard = elim (cases_eq shard at) [
  | inl e ↦ here at shard [] e
  | inr apart ↦ elsewhere at shard [] apart
]

-- the same where a step adds claims alone, or notes alone
pub grow_claims : (seats : List Seated) (at : ℕ) (old seat : Seated) (claims : List Claim)
    → slice_get seats at ≡ Some old → seat.view ≡ grown old.view claims []
    → Grow seats (slice_set seats at seat) (at_shard at claims) (λ shard. [])
grow_claims seats at old seat claims stands is shard =
    grow_one seats at old seat claims [] stands is shard
    ∙ ap (grown (view_at seats shard) (at_shard at claims shard)) (none_at at shard)

pub grow_notes : (seats : List Seated) (at : ℕ) (old seat : Seated) (notes : List Note)
    → slice_get seats at ≡ Some old → seat.view ≡ grown old.view [] notes
    → Grow seats (slice_set seats at seat) (λ shard. []) (at_shard at notes)
grow_notes seats at old seat notes stands is shard =
    grow_one seats at old seat [] notes stands is shard
    ∙ ap (λ (claims : List Claim). grown (view_at seats shard) claims (at_shard at notes shard)) (none_at at shard)

-- ---- several

pub grow_none : (seats : List Seated) → Grow seats seats (λ shard. []) (λ shard. [])
grow_none seats shard = unchanged (view_at seats shard)

pub grow_on : (first second third : List Seated) (claims more : ℕ → List Claim) (notes later : ℕ → List Note)
    → Grow first second claims notes → Grow second third more later
    → Grow first third (λ shard. claims shard ++ more shard) (λ shard. notes shard ++ later shard)
grow_on first second third claims more notes later one two shard =
    two shard ∙ ap (λ (view : View). grown view (more shard) (later shard)) (one shard)
    ∙ ap₂ (λ (c : List Claim) (n : List Note). record (view_at first shard) { claims = c; notes = n })
    (append_assoc (view_at first shard).claims (claims shard) (more shard))
    (append_assoc (view_at first shard).notes (notes shard) (later shard))

-- ---- notes stay

-- each note of before is there after
abbrev pub Later : List Seated → List Seated → Type 0
Later before after = (shard : ℕ) (note : Note) → HasNoted before shard note → HasNoted after shard note

pub grow_later : (before after : List Seated) (claims : ℕ → List Claim) (notes : ℕ → List Note)
    → Grow before after claims notes → Later before after
grow_later before after claims notes grow shard note has =
    subst (λ (view : View). Contains view.notes note) (sym (grow shard))
    (Contains-append_left (view_at before shard).notes (notes shard) note has)

pub grow_notes_there : (before after : List Seated) (claims : ℕ → List Claim) (notes : ℕ → List Note) (shard : ℕ)
    (note : Note) → Grow before after claims notes → Contains (notes shard) note → HasNoted after shard note
grow_notes_there before after claims notes shard note grow has =
    subst (λ (view : View). Contains view.notes note) (sym (grow shard))
    (Contains-append_right (view_at before shard).notes (notes shard) note has)

-- ---- what a step of a seat leaves, as more claims and notes

pub claimed : (view : View) (claim : Claim) → with_claim view claim ≡ grown view (claim ∷ []) []
claimed view claim =
    ap (λ (notes : List Note). record view { claims = view.claims ++ claim ∷ []; notes = notes })
    (sym (append-nil view.notes))

pub noted : (view : View) (note : Note) → with_note view note ≡ grown view [] (note ∷ [])
noted view note =
    ap (λ (claims : List Claim). record view { claims = claims; notes = view.notes ++ note ∷ [] })
    (sym (append-nil view.claims))

pub lows : (view : View) (purse : ℕ) (values : List ℕ) → with_lows view purse values
    ≡ grown view [] (map (Low purse) values)
lows view purse values =
    ap (λ (claims : List Claim). record view { claims = claims; notes = view.notes ++ map (Low purse) values })
    (sym (append-nil view.claims))
