-- The laws of the steps and the rule, over all states.
use Rattle.std.specs.Prelude.{◌≡◌, ◌≢◌, ◌⊎◌, ◌↔◌, ℕ, ◌+◌, ◌<◌, ◌≤◌, List, [], ◌∷◌, length, slice_index, Some, true}
use Rattle.std.specs.Prelude.{false}
use Rattle.std.specs.List.{Contains}
use Rattle.std.specs.Int.{bit_at}
use Rattle.sx_event.specs.declared.event.Event.{Event}
use Rattle.sx_event.specs.declared.event.Event.TheVariants.{Look, Take, Claim, Split, Join}
use Rattle.sx_event.specs.declared.event.Step.TheVariants.{Won, Lost}
use Rattle.sx_event.specs.declared.marks.Note.TheVariants.{Low, Set}
use Rattle.sx_event.specs.View.{spent, last_low}
use Rattle.sx_event.specs.State.{State, begun, view_of, purse_of, word_of}
use Rattle.sx_event.specs.Step.{stepped, answer, StepAllowed}
use Rattle.sx_event.specs.Rule.{Rule, debits, times, all_debits, all_times, BitsAddUp}

-- a step that is allowed keeps the rule
abbrev pub Keeps : Event → Type 0
Keeps event =
    (state : State) (actor : ℕ) → Rule state → StepAllowed state actor event → Rule (stepped state actor event)

-- the same of each kind
abbrev pub LookKeeps : Type 0
LookKeeps = (purse : ℕ) → Keeps (Look purse)

abbrev pub TakeKeeps : Type 0
TakeKeeps = (purse need : ℕ) → Keeps (Take purse need)

abbrev pub ClaimKeeps : Type 0
ClaimKeeps = (word bit : ℕ) → Keeps (Claim word bit)

abbrev pub SplitKeeps : Type 0
SplitKeeps = (at : ℕ) → Keeps (Split at)

abbrev pub JoinKeeps : Type 0
JoinKeeps = (other : ℕ) → Keeps (Join other)

-- the state after these turns, each an actor and its event
abbrev pub run : List (ℕ × Event) → State → State
run [] state = state
run (turn ∷ turns) state = run turns (stepped state turn.0 turn.1)

-- the conditions of each of these turns hold when it comes
abbrev pub AllAllowed : List (ℕ × Event) → State → Type 0
AllAllowed [] state = Unit {0}
AllAllowed (turn ∷ turns) state =
    StepAllowed state turn.0 turn.1 × AllAllowed turns (stepped state turn.0 turn.1)

-- the rule holds at the start, and after every list of turns whose conditions hold
abbrev pub RunsKeep : Type 0
RunsKeep =
    (purses bits : List ℕ) (count : ℕ) (turns : List (ℕ × Event)) → AllAllowed turns (begun purses bits count) →
    Rule (run turns (begun purses bits count))

-- a Take that is won takes its need, and the purse had as much
abbrev pub WonIsCovered : Type 0
WonIsCovered =
    (state : State) (actor purse need : ℕ) → StepAllowed state actor (Take purse need) →
    answer state actor (Take purse need) ≡ Won →
    purse_of (stepped state actor (Take purse need)) purse + need ≡ purse_of state purse

-- a Take that is lost finds less than its view's last Low note of the purse
abbrev pub LostFindsLess : Type 0
LostFindsLess =
    (state : State) (actor purse need found seen : ℕ) → Rule state → StepAllowed state actor (Take purse need) →
    answer state actor (Take purse need) ≡ Lost found →
    last_low purse (view_of state actor).notes ≡ Some seen → found < seen

-- no step raises a purse
abbrev pub PursesFall : Type 0
PursesFall =
    (state : State) (actor : ℕ) (event : Event) (purse : ℕ) →
    purse_of (stepped state actor event) purse ≤ purse_of state purse

-- no step clears a bit
abbrev pub BitsStay : Type 0
BitsStay =
    (state : State) (actor : ℕ) (event : Event) (word bit : ℕ) →
    bit_at (word_of state word) bit ≤ bit_at (word_of (stepped state actor event) word) bit

-- a step changes no view but its actor's, and the one that a Join spends
abbrev pub OthersStay : Type 0
OthersStay =
    (state : State) (actor : ℕ) (event : Event) (view : ℕ) → view ≢ actor → event ≢ Join view →
    view < length state.views → view_of (stepped state actor event) view ≡ view_of state view

-- the second part of the rule, in words: a bit is set exactly where it was at the opening or is
-- claimed; none is claimed twice, and none that was set at the opening is claimed
pub record BitsMean (opening present : List ℕ) (claimed : ℕ → ℕ → ℕ) (word bit : ℕ) : Type 0 where
  pub is_set : (bit_at (slice_index present word) bit ≡ 1) ↔
      ((bit_at (slice_index opening word) bit ≡ 1) ⊎ (1 ≤ claimed word bit))
  pub once : claimed word bit ≤ 1
  pub apart : bit_at (slice_index opening word) bit ≡ 1 → claimed word bit ≡ 0

abbrev pub BitsRead : Type 0
BitsRead =
    (opening present : List ℕ) (claimed : ℕ → ℕ → ℕ) (word bit : ℕ) → BitsAddUp opening present claimed →
    BitsMean opening present claimed word bit

-- the third part, of one note
abbrev pub LowsRead : Type 0
LowsRead =
    (state : State) (view purse value : ℕ) → Rule state → Contains (view_of state view).notes (Low purse value) →
    (purse_of state purse ≤ value) × (value ≤ slice_index state.opening_purses purse)

-- the fourth part, of one note
abbrev pub SetsRead : Type 0
SetsRead =
    (state : State) (view word bit : ℕ) → Rule state → Contains (view_of state view).notes (Set word bit) →
    bit_at (word_of state word) bit ≡ 1

-- the view is live, and the candidate in its range
pub record Owns (state : State) (name candidate : ℕ) : Type 0 where
  pub live : (view_of state name).live ≡ true
  pub from : (view_of state name).from ≤ candidate
  pub end : candidate < (view_of state name).end

-- the fifth part: each candidate has one owner, and what has an owner is a candidate
pub record RangesMean (state : State) : Type 0 where
  pub owner : (candidate : ℕ) → candidate < state.count →
      (name : ℕ) × Owns state name candidate × ((other : ℕ) → Owns state other candidate → other ≡ name)
  pub candidates : (name candidate : ℕ) → Owns state name candidate → candidate < state.count
  pub filled : (name : ℕ) → 0 < state.count → (view_of state name).live ≡ true →
      (view_of state name).from < (view_of state name).end
  pub lone : state.count ≡ 0 →
      (name : ℕ) × ((view_of state name).live ≡ true) × ((other : ℕ) → (view_of state other).live ≡ true → other ≡ name)
  pub bare : (name : ℕ) → (view_of state name).live ≡ false → view_of state name ≡ spent

abbrev pub RangesRead : Type 0
RangesRead = (state : State) → Rule state → RangesMean state

-- a live view that has all candidates is the only live one, and has all claims
pub record HasAll (state : State) (name : ℕ) : Type 0 where
  pub alone : (other : ℕ) → other ≢ name → (view_of state other).live ≢ true
  pub debits : (purse : ℕ) → all_debits state.views purse ≡ debits (view_of state name).claims purse
  pub times : (word bit : ℕ) → all_times state.views word bit ≡ times (view_of state name).claims word bit

abbrev pub WholeHasAll : Type 0
WholeHasAll =
    (state : State) (name : ℕ) → Rule state → (view_of state name).live ≡ true →
    (view_of state name).from ≡ 0 → (view_of state name).end ≡ state.count → HasAll state name
