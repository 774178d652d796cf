-- What a search keeps.
use Rattle.std.specs.Prelude.{ℕ, ◌≤◌, List}
use Rattle.sx_curve.specs.declared.quote.Quote.{Quote}
use Rattle.sx_search.specs.declared.state.State.{State}
use Rattle.sx_search.specs.Points.{HasRoom, IsAt}

-- two points with room, of which the held one has the demand at its prices
pub record IsState (assets : ℕ) (quotes : List Quote) (j : ℕ) (state : State) : Type 0 where
  pub held_room : HasRoom assets state.held
  pub trial_room : HasRoom assets state.trial
  pub held_at : IsAt quotes j state.held
  pub exponent : state.exponent ≤ 41
