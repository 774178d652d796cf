-- What holds while a script runs: the next event of each actor is allowed.
use Rattle.std.specs.Prelude.{◌≡◌, ℕ, ◌<◌, ◌≤◌, true, List, length, IsSomeAnd}
use Rattle.std.specs.List.{All, Contains}
use Rattle.sx_event.specs.declared.event.Event.{Event}
use Rattle.sx_event.specs.declared.event.Event.TheVariants as event
use Rattle.sx_event.specs.State.{State, view_of}
use Rattle.sx_event.specs.View.{last_low}
use Rattle.sx_layout.specs.declared.stage.Stage.{Stage}
use Rattle.sx_layout.specs.declared.stage.Stage.TheVariants as stage
use Rattle.sx_script.specs.Actors.{Actor, actor_of}
use Rattle.sx_layout.specs.Plan.{Plan, plan_of, words_of}
use Rattle.sx_layout.specs.PlanLaws.{IsLaidOut}
use Rattle.sx_script.specs.Running.{Run}
use Rattle.sx_layout.specs.Setting.{Setting}
use Rattle.sx_tx.specs.declared.tx.Tx.{Tx}

-- all words are in one shard, as a script wants them
pub record IsOneShard (setting : Setting) : Type 0 where
  pub laid_out : IsLaidOut setting.parts setting.candidates 1
  pub plan : setting.plan ≡ plan_of setting.parts setting.candidates 1

-- a bit word among this many, and one of its bits
abbrev pub IsBit : ℕ → ℕ → ℕ → Type 0
IsBit words word bit = (word < words) × (bit < 64)

-- the claim of such a bit
abbrev pub IsClaim : ℕ → Event → Type 0
IsClaim words (event.Claim word bit) = IsBit words word bit
IsClaim words _ = ⊥

-- a purse among this many, and an amount
abbrev pub IsNeed : ℕ → ℕ → ℕ → Type 0
IsNeed purses purse need = (purse < purses) × (1 ≤ need)

-- words that there are, and a stage that may come once the number is claimed
abbrev pub IsSecond : ℕ → ℕ → Stage → Type 0
IsSecond purses bits stage.Number = ⊥
IsSecond purses bits (stage.Name word bit) = IsBit bits word bit
IsSecond purses bits (stage.Look purse need) = IsNeed purses purse need
IsSecond purses bits (stage.Take purse need) = ⊥

-- the event of this stage is allowed to the view, where it does not claim the number
abbrev pub StageFits : State → ℕ → Stage → Type 0
StageFits state name stage.Number = Unit {0}
StageFits state name (stage.Name word bit) = IsBit (length state.bits) word bit
StageFits state name (stage.Look purse need) = IsNeed (length state.purses) purse need
StageFits state name (stage.Take purse need) =
    IsNeed (length state.purses) purse need ×
    IsSomeAnd (last_low purse (view_of state name).notes) (λ seen. need ≤ seen)

-- an actor's view is live, its next event is allowed, and what it has left are candidates
pub record ActorFits (candidates : List Tx) (state : State) (name : ℕ) (actor : Actor) : Type 0 where
  pub live : (view_of state name).live ≡ true
  pub stage : StageFits state name actor.stage
  pub own : All (Contains candidates) actor.left

-- as many words as the plan has
pub record WordsStay (plan : Plan) (state : State) : Type 0 where
  pub purses : length state.purses ≡ length (words_of plan.purses 0)
  pub bits : length state.bits ≡ length (words_of plan.bits 0)

pub record RunFits (candidates : List Tx) (plan : Plan) (run : Run) : Type 0 where
  pub words : WordsStay plan run.state
  pub actors : (name : ℕ) → name < length run.actors → ActorFits candidates run.state name (actor_of run.actors name)
