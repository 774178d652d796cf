-- Small cases that are worked out by hand.
use Rattle.std.proofs.Common.{◌≡◌, ℕ, List, [], ◌∷◌, Some, refl, arith}
use Rattle.sx_event.specs.declared.event.Event.{Event}
use Rattle.sx_event.specs.declared.event.Event.TheVariants.{Look, Take, Claim, Split, Join}
use Rattle.sx_event.specs.declared.event.Step.TheVariants.{Lost}
use Rattle.sx_event.specs.Laws.{AllAllowed, LostFindsLess, run}
use Rattle.sx_event.specs.Rule.{Rule}
use Rattle.sx_event.specs.State.{State, begun, view_of}
use Rattle.sx_event.specs.Step.{StepAllowed, answer}
use Rattle.sx_event.specs.View.{last_low}

-- ---- runs

-- two actors want bit 5, and 60 of a purse of 100. The first is first at both, and takes in the other
abbrev turns : List (ℕ × Event)
turns =
    (0, Split 1) ∷ (0, Claim 0 5) ∷ (1, Claim 0 5) ∷ (0, Look 0) ∷ (1, Look 0) ∷ (0, Take 0 60) ∷ (1, Take 0 60)
    ∷ (0, Join 1) ∷ []

abbrev opening : State
opening = begun (100 ∷ []) (1 ∷ []) 2

all_allowed : AllAllowed turns opening
all_allowed = (
  (refl, (omega arith, omega arith, omega arith)),
  (
    (refl, (omega arith, omega arith)),
    (
      (refl, (omega arith, omega arith)),
      (
        (refl, omega arith),
        (
          (refl, omega arith),
          (
            (refl, (omega arith, omega arith, omega arith)),
            ((refl, (omega arith, omega arith, omega arith)), ((refl, ((λ e. omega (arith, e)), refl, refl)), tt)),
          ),
        ),
      ),
    ),
  ),
)

ends : ((run turns opening).purses ≡ 40 ∷ []) × ((run turns opening).bits ≡ 33 ∷ [])
ends = (refl, refl)

-- where nobody has a turn there is nothing to allow
nobody : AllAllowed [] opening
nobody = tt

-- ---- a lost Take

-- never finds as much as was seen
never_as_much : LostFindsLess → (state : State) (actor purse need seen : ℕ) → Rule state
    → StepAllowed state actor (Take purse need) → answer state actor (Take purse need) ≡ Lost seen
    → last_low purse (view_of state actor).notes ≡ Some seen → ⊥
never_as_much less state actor purse need seen rule allowed lost last =
    let found = less state actor purse need seen seen rule allowed lost last in omega (arith, found)
