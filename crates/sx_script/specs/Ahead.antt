-- What an actor is about to do.
use Rattle.std.specs.Prelude.{◌≡◌, List, [], ◌∷◌, length, Ok}
use Rattle.sx_event.specs.declared.event.Event.{Event}
use Rattle.sx_event.specs.declared.event.Step.{Step}
use Rattle.sx_layout.specs.declared.stage.Ahead.{Ahead}
use Rattle.sx_layout.specs.declared.stage.Stage.{Stage}
use Rattle.sx_layout.specs.declared.stage.Stage.TheVariants as stage
use Rattle.sx_layout.specs.Deciding.{follows, next_event, second, what_follows}
use Rattle.sx_layout.specs.Plan.{words_of}
use Rattle.sx_script.specs.RunKeeps.{IsClaim, IsSecond}
use Rattle.sx_layout.specs.Setting.{Setting}
use Rattle.sx_ledger.specs.declared.parts.Parts.{Parts}
use Rattle.sx_ledger.specs.declared.places.Places.{Places}
use Rattle.sx_ledger.specs.Places.{ArePlaces}
use Rattle.sx_ledger.specs.Static.{static_of}
use Rattle.sx_tx.specs.declared.tx.Tx.{Tx}

-- there is a first candidate, which passes the static test, and these are its places
abbrev pub FirstPasses : Parts → List Tx → Places → Type 0
FirstPasses parts [] places = ⊥
FirstPasses parts (tx ∷ txs) places = (static_of parts tx ≡ Ok tt) × ArePlaces parts tx places

-- the number is claimed by an event that is allowed, and a stage follows whose words there are
abbrev pub NumberFits : Setting → Tx → Stage → Event → Type 0
NumberFits setting tx stage.Number event =
    let purses = length (words_of setting.plan.purses 0) in
    let bits = length (words_of setting.plan.bits 0) in
    IsClaim bits event × IsSecond purses bits (second setting.parts setting.plan tx)
NumberFits setting tx (stage.Name word bit) event = Unit {0}
NumberFits setting tx (stage.Look purse need) event = Unit {0}
NumberFits setting tx (stage.Take purse need) event = Unit {0}

-- the next event for the candidate, and what is known before it of what follows
pub record IsAhead (setting : Setting) (at : Stage) (tx : Tx) (ahead : Ahead) : Type 0 where
  pub event : ahead.event ≡ next_event setting.parts setting.plan tx at
  pub follows :
      (told : Step) → follows ahead.of ahead.second at told ≡ what_follows setting.parts setting.plan tx at told
  pub fits : NumberFits setting tx at ahead.event

-- the same for the first of these candidates
abbrev pub IsNext : Setting → Stage → List Tx → Ahead → Type 0
IsNext setting at [] ahead = ⊥
IsNext setting at (tx ∷ txs) ahead = IsAhead setting at tx ahead

-- this event, for the first of these candidates
abbrev pub IsAheadBy : Event → List Tx → Ahead → Type 0
IsAheadBy event [] ahead = ⊥
IsAheadBy event (tx ∷ txs) ahead = (ahead.of ≡ tx.kind) × (ahead.event ≡ event)
