-- A view: the candidates that are its own, what it has taken and what it has seen.
use Rattle.std.specs.Prelude.{ℕ, ◌==◌, Bool, true, false, if◌then◌else◌, List, [], ◌∷◌, ◌++◌, Option, None, Some}
use Rattle.sx_event.specs.declared.marks.Claim.{Claim}
use Rattle.sx_event.specs.declared.marks.Note.{Note}
use Rattle.sx_event.specs.declared.marks.Note.TheVariants.{Low, Set}

-- whether it is live, its candidates (from the first up to the end), and its claims and notes, the
-- latest at the end
pub record View : Type 0 where
  pub live : Bool
  pub from : ℕ
  pub end : ℕ
  pub claims : List Claim
  pub notes : List Note

-- a new view of these candidates
abbrev pub opened : ℕ → ℕ → View
opened from end = record { live = true; from = from; end = end; claims = []; notes = [] }

-- a view that another has taken in
abbrev pub spent : View
spent = record { live = false; from = 0; end = 0; claims = []; notes = [] }

-- with one more claim
abbrev pub with_claim : View → Claim → View
with_claim view claim = record view { claims = view.claims ++ claim ∷ [] }

-- with one more note
abbrev pub with_note : View → Note → View
with_note view note = record view { notes = view.notes ++ note ∷ [] }

-- the value that a note tells of a purse
abbrev pub low_in : ℕ → Note → Option ℕ
low_in purse (Low of value) = if of == purse then Some value else None
low_in purse (Set word bit) = None

-- the first of two that there is
abbrev pub or_else : Option ℕ → Option ℕ → Option ℕ
or_else (Some value) _ = Some value
or_else None other = other

-- the value that the last Low note of a purse tells
abbrev pub last_low : ℕ → List Note → Option ℕ
last_low purse [] = None
last_low purse (note ∷ notes) = or_else (last_low purse notes) (low_in purse note)
