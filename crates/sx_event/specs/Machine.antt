-- What a core's fields show, and what holds of them.
use Rattle.std.specs.Prelude.{◌≤◌}
use Rattle.sx_event.specs.declared.machine.Core.TheInside.{Inside}
use Rattle.sx_event.specs.State.{State, Running}
use Rattle.sx_event.specs.Rule.{Rule}

-- the state that the fields show
abbrev pub state_of : Inside → State
state_of core = record {
  opening_purses = core.opening_purses.items;
  opening_bits = core.opening_bits.items;
  count = core.count;
  purses = core.purses.items;
  bits = core.bits.items;
  views = core.views.views;
}

abbrev pub running : Inside → Running
running core = record { state = state_of core; spare = core.spare }

-- the rule holds, and there is room for as many steps as it says
pub record IsSound (core : Inside) : Type 0 where
  pub rule : Rule (state_of core)
  pub room : core.spare ≤ core.views.room
