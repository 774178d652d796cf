-- The rule along a list of turns.
use Rattle.std.proofs.Common.{ℕ, List, [], ◌∷◌, add-zero, refl, All, arith}
use Rattle.std.specs.Prelude.{slice_index}
use Rattle.sx_event.specs.declared.event.Event.{Event}
use Rattle.sx_event.specs.State.{State, begun}
use Rattle.std.specs.Int.{bit_at}
use Rattle.std.proofs.lemmas.List.Elements.{All-push}
use Rattle.sx_event.specs.View.{View, opened}
use Rattle.sx_event.specs.Step.{stepped}
use Rattle.sx_event.specs.Rule.{LowFits, SetFits, Rule}
use Rattle.sx_event.specs.Laws.{run, AllAllowed}
use Rattle.sx_event.proofs.Ranges.{ranges_begun}
use Rattle.sx_event.proofs.Keeping.{step_keeps}

-- before the first step
pub begun_keeps : (purses bits : List ℕ) (count : ℕ) → Rule (begun purses bits count)
begun_keeps purses bits count = record {
  purses = record { as_many = refl; adds_up = λ p. add-zero (slice_index purses p) };
  bits = record { as_many = refl; adds_up = λ w b. add-zero (bit_at (slice_index bits w) b) };
  lows = All-push (λ (u : View). All (LowFits purses purses) u.notes) [] (opened 0 count)
      (λ k d lt. absurd (omega arith)) (λ k d lt. absurd (omega arith));
  sets = All-push (λ (u : View). All (SetFits bits) u.notes) [] (opened 0 count) (λ k d lt. absurd (omega arith))
      (λ k d lt. absurd (omega arith));
  ranges = ranges_begun count;
}

along : (turns : List (ℕ × Event)) (state : State) → Rule state → AllAllowed turns state → Rule (run turns state)
along [] state rule allowed = rule
along (turn ∷ turns) state rule allowed =
    along turns (stepped state turn.0 turn.1) (step_keeps turn.1 state turn.0 rule allowed.0) allowed.1

pub run_keeps : (purses bits : List ℕ) (count : ℕ) (turns : List (ℕ × Event)) →
    AllAllowed turns (begun purses bits count) → Rule (run turns (begun purses bits count))
run_keeps purses bits count turns allowed =
    along turns (begun purses bits count) (begun_keeps purses bits count) allowed
