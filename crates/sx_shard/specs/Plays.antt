-- What each kind of step makes of a seat's view.
use Rattle.std.specs.Prelude.{◌≡◌, ℕ, ◌+◌, ◌≤◌, List, [], slice_index, All}
use Rattle.atomic_table.specs.Table.{Step, Me}
use Rattle.sx_event.specs.declared.event.Event.{Event}
use Rattle.sx_event.specs.declared.event.Event.TheVariants.{Look, Take, Claim, Split, Join}
use Rattle.sx_event.specs.declared.marks.Note.{Note}
use Rattle.sx_event.specs.declared.marks.Note.TheVariants.{Low, Set}
use Rattle.sx_event.specs.View.{View, spent}
use Rattle.sx_event.specs.Step.{after_look, after_take, after_claim, left_part, right_part, joined}
use Rattle.sx_event.specs.Rule.{debits}
use Rattle.sx_shard.specs.declared.known.Known.{Known}
use Rattle.sx_shard.specs.Known.{view_in, known_of}

-- the view after an event on a word that was found at a value
abbrev pub view_after : Event → View → ℕ → View
view_after (Look purse) view found = after_look view purse found
view_after (Take purse need) view found = after_take view purse need found
view_after (Claim word bit) view found = after_claim view word bit found
view_after (Split at) view found = view
view_after (Join other) view found = view

-- a value of the purse is at most what a note tells of it
abbrev pub IsBelow : ℕ → ℕ → Note → Type 0
IsBelow purse value (Low of seen) = of ≡ purse → value ≤ seen
IsBelow purse value (Set word bit) = Unit {0}

-- a value of the purse is at most what it was at the opening less what the view has taken of it, and
-- at most what any note of the view tells of it
pub record IsFresh (opening : List ℕ) (view : View) (purse value : ℕ) : Type 0 where
  pub debits : value + debits view.claims purse ≤ slice_index opening purse
  pub notes : All (IsBelow purse value) view.notes

-- what is found of a purse is fresh
abbrev pub FindsFresh : Event → List ℕ → View → ℕ → Type 0
FindsFresh (Look purse) opening view found = IsFresh opening view purse found
FindsFresh (Take purse need) opening view found = IsFresh opening view purse found
FindsFresh (Claim word bit) opening view found = Unit {0}
FindsFresh (Split at) opening view found = Unit {0}
FindsFresh (Join other) opening view found = Unit {0}

-- a step on a word is this event
pub record IsEvent (event : Event) (before : Known) (found : ℕ) (after : Known) : Type 0 where
  pub view : view_in after ≡ view_after event (view_in before) found
  pub opening : after.opening ≡ before.opening
  pub fresh : FindsFresh event before.opening (view_in before) found

-- the step is this event, by a seat that takes no slot
abbrev pub Tells : Event → Me (Unit {0}) Known → ℕ → Me (Unit {0}) Known → Type 0
Tells event before found after = IsEvent event before.0 found after.0 × (after.1 ≡ before.1)

-- what a step tells its seat
abbrev pub told : Event → Step (Unit {0}) → Me (Unit {0}) Known → ℕ → Me (Unit {0}) Known → Type 0
told event step before found after = Tells event before found after

-- Split: what stays, and what the new seat has
abbrev pub cut_at : Event → View → View
cut_at (Look purse) view = view
cut_at (Take purse need) view = view
cut_at (Claim word bit) view = view
cut_at (Split at) view = left_part view at
cut_at (Join other) view = view

abbrev pub rest_from : Event → View → View
rest_from (Look purse) view = spent
rest_from (Take purse need) view = spent
rest_from (Claim word bit) view = spent
rest_from (Split at) view = right_part view at
rest_from (Join other) view = spent

abbrev pub kept_part : Event → Known → Known
kept_part event known = known_of (cut_at event (view_in known)) known.opening

abbrev pub given_part : Event → Known → Known
given_part event known = known_of (rest_from event (view_in known)) known.opening

-- Join: the view of both, and what is left of the other
abbrev pub both : Known → Known → Known
both known other = known_of (joined (view_in known) (view_in other)) known.opening

abbrev pub gone : Known
gone = known_of spent []
