-- What a reservation finds and what it leaves: one look at the purse, and then takes.
use Rattle.std.specs.Prelude.{◌≡◌, ℕ, ◌<◌, ◌≤◌, List, [], ◌∷◌, ◌++◌, map, All, Some}
use Rattle.sx_event.specs.declared.marks.Claim.TheVariants.{Debit}
use Rattle.sx_event.specs.declared.marks.Note.TheVariants.{Low}
use Rattle.sx_event.specs.View.{View, with_claim, last_low}
use Rattle.sx_event.specs.Step.{after_look, after_take}

-- the view with a note of each of these values of the purse
abbrev pub with_lows : View → ℕ → List ℕ → View
with_lows view purse values = record view { notes = view.notes ++ map (Low purse) values }

-- each value is less than the one before it
abbrev pub Falls : List ℕ → Type 0
Falls [] = Unit {0}
Falls (value ∷ []) = Unit {0}
Falls (value ∷ next ∷ rest) = (next < value) × Falls (next ∷ rest)

-- the values that the look and the lost takes find. They fall, and each but the last is enough
pub record Finds (need : ℕ) (earlier : List ℕ) (last : ℕ) : Type 0 where
  pub falls : Falls (earlier ++ last ∷ [])
  pub enough : All (λ value. need ≤ value) earlier

-- the last value is enough, and the need is taken
pub record Reserves (view : View) (purse need : ℕ) (after : View) : Type 0 where
  pub earlier : List ℕ
  pub last : ℕ
  pub finds : Finds need earlier last
  pub covered : need ≤ last
  pub leaves : after ≡ with_claim (with_lows view purse (earlier ++ last ∷ [])) (Debit purse need)

-- the last value is less than the need, and nothing is taken
pub record Refuses (view : View) (purse need seen : ℕ) (after : View) : Type 0 where
  pub earlier : List ℕ
  pub finds : Finds need earlier seen
  pub short : seen < need
  pub leaves : after ≡ with_lows view purse (earlier ++ seen ∷ [])

-- the view after takes that find these values
abbrev pub after_takes : ℕ → ℕ → View → List ℕ → View
after_takes purse need view [] = view
after_takes purse need view (found ∷ rest) = after_takes purse need (after_take view purse need found) rest

-- the notes of values that fall are those of a look, which finds the first, and of takes that are lost
abbrev pub LooksAndTakes : Type 0
LooksAndTakes =
    (view : View) (purse need first : ℕ) (rest : List ℕ) → Falls (first ∷ rest) →
    with_lows view purse (first ∷ rest) ≡ after_takes purse need (after_look view purse first) rest

-- a take that finds the value that was seen last is won
abbrev pub LastTakeWins : Type 0
LastTakeWins =
    (view : View) (purse need : ℕ) (earlier : List ℕ) (last : ℕ) →
    let seen = with_lows view purse (earlier ++ last ∷ []) in
    after_take seen purse need last ≡ with_claim seen (Debit purse need)

-- after a reservation the value of the purse that was seen last covers the need, which is the one thing taken
abbrev pub ReservesWhatIsThere : Type 0
ReservesWhatIsThere =
    (view after : View) (purse need : ℕ) → Reserves view purse need after →
    (seen : ℕ) × (last_low purse after.notes ≡ Some seen) × (need ≤ seen)
    × (after.claims ≡ view.claims ++ Debit purse need ∷ [])

-- after a refusal it is the one that is told, which is less than the need, and nothing is taken
abbrev pub RefusesTooLittle : Type 0
RefusesTooLittle =
    (view after : View) (purse need seen : ℕ) → Refuses view purse need seen after →
    (last_low purse after.notes ≡ Some seen) × (seen < need) × (after.claims ≡ view.claims)

-- where the look finds less than the need, nothing more is tried
abbrev pub TriesWhileEnough : Type 0
TriesWhileEnough = (need first last : ℕ) (rest : List ℕ) → Finds need (first ∷ rest) last → need ≤ first
