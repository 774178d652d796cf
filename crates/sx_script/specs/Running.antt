-- How a script runs: what each turn does, and the outcomes at the end.
use Rattle.std.specs.Prelude.{ℕ, zero, suc, ◌-◌, ◌*◌, List, [], ◌∷◌, ◌++◌, length, drop, slice_set, Ok}
use Rattle.std.specs.Prelude.{Err}
use Rattle.std.specs.Prelude.{nat_lt, if◌then◌else◌}
use Rattle.std.specs.List.{flat_map}
use Rattle.sx_event.specs.State.{State, begun}
use Rattle.sx_event.specs.Step.{stepped, answer}
use Rattle.sx_outcome.specs.declared.outcome.Outcome.{Outcome}
use Rattle.sx_outcome.specs.declared.outcome.Outcome.TheVariants as outcome
use Rattle.sx_layout.specs.declared.stage.Next.{Next}
use Rattle.sx_layout.specs.declared.stage.Next.TheVariants.{On, Decided}
use Rattle.sx_layout.specs.declared.stage.Stage.{Stage}
use Rattle.sx_layout.specs.declared.stage.Stage.TheVariants as stage
use Rattle.sx_script.specs.Actors.{Actor, beginning, working, all_starting, actor_of, after_splits}
use Rattle.sx_layout.specs.Deciding.{next_event, what_follows}
use Rattle.sx_layout.specs.Plan.{Plan, plan_of, words_of}
use Rattle.sx_ledger.specs.declared.parts.Parts.{Parts}
use Rattle.sx_ledger.specs.Static.{static_of}
use Rattle.sx_tx.specs.declared.tx.Tx.{Tx}

-- the words and the views, and the actors: actor k has view k
pub record Run : Type 0 where
  pub state : State
  pub actors : List Actor

-- ---- a turn

-- an actor passes over all candidates that the ledger refuses, up to the first that it does not
abbrev pub passed : Parts → List Tx → List Outcome → Actor
passed parts [] done = beginning [] done
passed parts (tx ∷ txs) done =
    elim (static_of parts tx) [
      | Ok passes ↦ beginning (tx ∷ txs) done
      | Err why ↦ passed parts txs (done ++ outcome.Static why ∷ [])
    ]

-- an actor whose next candidate, if one is left, is in the middle or passes the static test
abbrev pub ready_at : Parts → Actor → Stage → Actor
ready_at parts actor stage.Number = passed parts actor.left actor.done
ready_at parts actor (stage.Name word bit) = actor
ready_at parts actor (stage.Look purse need) = actor
ready_at parts actor (stage.Take purse need) = actor

abbrev pub ready : Parts → Actor → Actor
ready parts actor = ready_at parts actor actor.stage

-- an actor once it knows what follows for the first of its candidates
abbrev pub moved : Actor → Next → Actor
moved actor (On stage) = record actor { stage = stage }
moved actor (Decided outcome) = beginning (drop 1 actor.left) (actor.done ++ outcome ∷ [])

-- what a ready actor with these candidates does in its turn: one event, if a candidate is left
abbrev pub acted_at : Parts → Plan → State → ℕ → Actor → List Tx → State × Actor
acted_at parts plan state name actor [] = (state, actor)
acted_at parts plan state name actor (tx ∷ txs) =
    let event = next_event parts plan tx actor.stage in
    let next = what_follows parts plan tx actor.stage (answer state name event) in
    (stepped state name event, moved actor next)

-- what a turn makes of the state and of its actor
abbrev pub acted : Parts → Plan → State → ℕ → Actor → State × Actor
acted parts plan state name actor = let now = ready parts actor in acted_at parts plan state name now now.left

abbrev pub own_turn : Parts → Plan → ℕ → Run → Run
own_turn parts plan name run =
    let after = acted parts plan run.state name (actor_of run.actors name) in
    record { state = after.0; actors = slice_set run.actors name after.1 }

-- a turn of this name, which need not be an actor's
abbrev pub turn : Parts → Plan → ℕ → Run → Run
turn parts plan name run = if nat_lt name (length run.actors) then own_turn parts plan name run else run

-- ---- all turns

abbrev pub after_turns : Parts → Plan → List ℕ → Run → Run
after_turns parts plan [] run = run
after_turns parts plan (name ∷ names) run = after_turns parts plan names (turn parts plan name run)

-- so many turns of one actor
abbrev pub after_own : Parts → Plan → ℕ → ℕ → Run → Run
after_own parts plan name zero run = run
after_own parts plan name (suc n) run = turn parts plan name (after_own parts plan name n run)

-- an actor runs to its end: alone it needs at most three turns for a candidate, and more turns do nothing
abbrev pub to_end : Parts → Plan → ℕ → Run → Run
to_end parts plan name run = after_own parts plan name (3 * length (actor_of run.actors name).left) run

-- the first n actors run to their ends, one after the other
abbrev pub all_to_end : Parts → Plan → ℕ → Run → Run
all_to_end parts plan zero run = run
all_to_end parts plan (suc n) run = to_end parts plan n (all_to_end parts plan n run)

-- ---- a script

-- before the first turn
abbrev pub opening_run : Parts → Plan → List Tx → ℕ → Run
opening_run parts plan candidates n = record {
  state =
      let count = length candidates in
      after_splits count n (n - 1) (begun (words_of plan.purses 0) (words_of plan.bits 0) count);
  actors = all_starting candidates n;
}

-- after all turns and once all actors have run to their ends
abbrev pub closing_run : Parts → List Tx → ℕ → List ℕ → Run
closing_run parts candidates actors turns =
    let plan = plan_of parts candidates 1 in
    let n = working actors (length candidates) in
    all_to_end parts plan n (after_turns parts plan turns (opening_run parts plan candidates n))

-- what its actors have decided, one actor after the other
abbrev pub done_of_run : Run → List Outcome
done_of_run run = flat_map (λ actor. actor.done) run.actors

-- the outcomes, in the order of the candidates
abbrev pub outcomes_of_run : Parts → List Tx → ℕ → List ℕ → List Outcome
outcomes_of_run parts candidates actors turns =
    flat_map (λ actor. actor.done) (closing_run parts candidates actors turns).actors
