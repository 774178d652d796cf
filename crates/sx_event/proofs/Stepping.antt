-- What holds of a core's fields, after a step.
use Rattle.std.proofs.Common.{◌≡◌, ℕ, ◌≤◌, subst, sym}
use Rattle.sx_event.specs.declared.event.Event.{Event}
use Rattle.sx_event.specs.declared.machine.Core.TheInside.{Inside}
use Rattle.sx_event.specs.State.{Running}
use Rattle.sx_event.specs.Step.{StepAllowed, stepped}
use Rattle.sx_event.specs.Rule.{Rule}
use Rattle.sx_event.specs.Machine.{state_of, running, IsSound}
use Rattle.sx_event.proofs.Keeping.{step_keeps}

-- the conditions of a step, said of the fields
pub allowed_inside : (core : Inside) (now : Running) (actor : ℕ) (event : Event) → running core ≡ now →
    StepAllowed now.state actor event → StepAllowed (state_of core) actor event
allowed_inside core now actor event is allowed =
    subst (λ (r : Running). StepAllowed r.state actor event) (sym is) allowed

pub sound_after : (core core' : Inside) (now : Running) (actor : ℕ) (event : Event) → running core ≡ now →
    IsSound core → StepAllowed now.state actor event
    → state_of core' ≡ stepped (state_of core) actor event → core'.spare ≤ core'.views.room → IsSound core'
sound_after core core' now actor event is sound allowed after room = record {
  rule = subst Rule (sym after) (step_keeps event (state_of core) actor sound.rule
      (allowed_inside core now actor event is allowed));
  room = room;
}
