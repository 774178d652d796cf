-- What contracts see of seats.
use Rattle.std.specs.Prelude.{ℕ, List}
use Rattle.sx_event.specs.View.{View}

-- the views, and how many more steps there is room for
pub record Seated : Type 0 where
  pub views : List View
  pub room : ℕ
