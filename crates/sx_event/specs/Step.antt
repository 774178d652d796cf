-- The five kinds of step: what each does to its word and to the views, and what it answers.
use Rattle.std.specs.Prelude.{◌≡◌, ◌≢◌, ℕ, ◌-◌, ◌^◌, ◌<◌, ◌≤◌, ◌==◌, Bool, true, false, if◌then◌else◌, [], ◌∷◌, ◌++◌}
use Rattle.std.specs.Prelude.{length, slice_set, Option, None, Some, IsSomeAnd, bit_or}
use Rattle.std.specs.Int.{bit_at}
use Rattle.sx_event.specs.declared.event.Event.{Event}
use Rattle.sx_event.specs.declared.event.Event.TheVariants.{Look, Take, Claim, Split, Join}
use Rattle.sx_event.specs.declared.event.Step.{Step}
use Rattle.sx_event.specs.declared.event.Step.TheVariants.{Seen, Won, Lost, Clear, Taken, Made, Joined}
use Rattle.sx_event.specs.declared.marks.Claim.TheVariants.{Debit, Bit}
use Rattle.sx_event.specs.declared.marks.Note.TheVariants.{Low, Set}
use Rattle.sx_event.specs.View.{View, opened, spent, with_claim, with_note, last_low}
use Rattle.sx_event.specs.State.{State, view_of, purse_of, word_of}

-- Look, at a purse found at a value: the view notes it
abbrev pub after_look : View → ℕ → ℕ → View
after_look view purse found = with_note view (Low purse found)

-- whether the purse still has the value that was seen last
abbrev pub is_as_seen : Option ℕ → ℕ → Bool
is_as_seen None found = false
is_as_seen (Some seen) found = found == seen

-- whether a Take is won, at a purse found at a value
abbrev pub wins : View → ℕ → ℕ → Bool
wins view purse found = is_as_seen (last_low purse view.notes) found

-- the purse after a Take
abbrev pub purse_after_take : View → ℕ → ℕ → ℕ → ℕ
purse_after_take view purse need found = if wins view purse found then found - need else found

-- the view after a Take: it has the amount, or notes what it found
abbrev pub after_take : View → ℕ → ℕ → ℕ → View
after_take view purse need found =
    if wins view purse found then with_claim view (Debit purse need) else with_note view (Low purse found)

-- whether a word has the bit
abbrev pub has_bit : ℕ → ℕ → Bool
has_bit word bit = bit_at word bit == 1

-- the word after a Claim
abbrev pub word_after_claim : ℕ → ℕ → ℕ
word_after_claim bit found = bit_or found (2 ^ bit)

-- the view after a Claim: it has the bit, or notes that it was set
abbrev pub after_claim : View → ℕ → ℕ → ℕ → View
after_claim view word bit found =
    if has_bit found bit then with_note view (Set word bit) else with_claim view (Bit word bit)

-- Split: what stays, and what the new view has
abbrev pub left_part : View → ℕ → View
left_part view at = record view { end = at }

abbrev pub right_part : View → ℕ → View
right_part view at = opened at view.end

-- Join: both ranges, and the claims and notes of the other after the view's own
abbrev pub joined : View → View → View
joined view other = record view {
  end = other.end;
  claims = view.claims ++ other.claims;
  notes = view.notes ++ other.notes;
}

-- the state with another view under this name
abbrev pub with_view : State → ℕ → View → State
with_view state name view = record state { views = slice_set state.views name view }

-- the state after a step of this actor
abbrev pub stepped : State → ℕ → Event → State
stepped state actor (Look purse) =
    with_view state actor (after_look (view_of state actor) purse (purse_of state purse))
stepped state actor (Take purse need) =
    let view = view_of state actor in let found = purse_of state purse in
    record (with_view state actor (after_take view purse need found)) {
      purses = slice_set state.purses purse (purse_after_take view purse need found);
    }
stepped state actor (Claim word bit) =
    let view = view_of state actor in let found = word_of state word in
    record (with_view state actor (after_claim view word bit found)) {
      bits = slice_set state.bits word (word_after_claim bit found);
    }
stepped state actor (Split at) =
    let view = view_of state actor in
    record state { views = slice_set state.views actor (left_part view at) ++ right_part view at ∷ [] }
stepped state actor (Join other) =
    let both = joined (view_of state actor) (view_of state other) in
    record state { views = slice_set (slice_set state.views actor both) other spent }

-- what the actor is told
abbrev pub answer : State → ℕ → Event → Step
answer state actor (Look purse) = Seen (purse_of state purse)
answer state actor (Take purse need) =
    let found = purse_of state purse in
    if wins (view_of state actor) purse found then Won else Lost found
answer state actor (Claim word bit) = if has_bit (word_of state word) bit then Taken else Clear
answer state actor (Split at) = Made (length state.views)
answer state actor (Join other) = Joined

-- what each kind of step asks for, besides a live view
abbrev pub Fits : State → ℕ → Event → Type 0
Fits state actor (Look purse) = purse < length state.purses
Fits state actor (Take purse need) =
    (purse < length state.purses) × (1 ≤ need) ×
    IsSomeAnd (last_low purse (view_of state actor).notes) (λ seen. need ≤ seen)
Fits state actor (Claim word bit) = (word < length state.bits) × (bit < 64)
Fits state actor (Split at) =
    ((view_of state actor).from < at) × (at < (view_of state actor).end) ×
    (length state.views < 2 ^ 32 - 1)
Fits state actor (Join other) =
    (other ≢ actor) × ((view_of state other).live ≡ true) ×
    ((view_of state other).from ≡ (view_of state actor).end)

-- the conditions of a step
abbrev pub StepAllowed : State → ℕ → Event → Type 0
StepAllowed state actor event = ((view_of state actor).live ≡ true) × Fits state actor event
