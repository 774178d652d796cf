-- The actors of a script, each with a part of the candidates and a view of its own.
use Rattle.std.specs.Prelude.{ℕ, zero, suc, ◌+◌, ◌*◌, ◌/◌, List, [], length, map, max, min, slice_index_or}
use Rattle.std.specs.List.{range_with_len, slice_range}
use Rattle.sx_event.specs.declared.event.Event.TheVariants.{Split}
use Rattle.sx_event.specs.State.{State}
use Rattle.sx_event.specs.Step.{stepped}
use Rattle.sx_outcome.specs.declared.outcome.Outcome.{Outcome}
use Rattle.sx_layout.specs.declared.stage.Stage.{Stage}
use Rattle.sx_layout.specs.declared.stage.Stage.TheVariants as stage
use Rattle.sx_tx.specs.declared.tx.Tx.{Tx}

-- the candidates that an actor has left, what it does next for the first of them, and the outcomes of those before
pub record Actor : Type 0 where
  pub left : List Tx
  pub stage : Stage
  pub done : List Outcome

-- an actor that is at the beginning of a candidate
abbrev pub beginning : List Tx → List Outcome → Actor
beginning left done = record { left = left; stage = stage.Number; done = done }

-- how many actors work: as many as there are candidates for, and at least one
abbrev pub working : ℕ → ℕ → ℕ
working actors count = max 1 (min actors count)

-- where the part of an actor begins among `count` candidates of `n` actors. It ends where the next one's begins
abbrev pub part_begin : ℕ → ℕ → ℕ → ℕ
part_begin count n k = count * k / n

-- an actor before the first turn
abbrev pub starting : List Tx → ℕ → ℕ → Actor
starting candidates n k =
    let count = length candidates in
    beginning (slice_range candidates (part_begin count n k) (part_begin count n (k + 1))) []

-- all of them
abbrev pub all_starting : List Tx → ℕ → List Actor
all_starting candidates n = map (starting candidates n) (range_with_len 0 n)

-- the actor of this name
abbrev pub actor_of : List Actor → ℕ → Actor
actor_of actors name = slice_index_or actors name (beginning [] [])

-- ---- their views

-- after this many splits. View k is split where the part of actor k + 1 begins, so that view k is that of actor k
abbrev pub after_splits : ℕ → ℕ → ℕ → State → State
after_splits count n zero state = state
after_splits count n (suc k) state = stepped (after_splits count n k state) k (Split (part_begin count n (k + 1)))
