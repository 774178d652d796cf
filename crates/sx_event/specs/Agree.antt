-- What is known of the purses, and the notes of the views.
use Rattle.std.specs.Prelude.{◌≡◌, ℕ, true, List, length, slice_index_or}
use Rattle.sx_event.specs.View.{View, spent, last_low}
use Rattle.sx_event.specs.Chains.{Chained, IsOpen, seen_last}

-- each live view is open, and what it saw last of a purse is what its last Low note of it tells
pub record Agree (views : List View) (lows : Chained) : Type 0 where
  pub as_many : length lows.links ≡ length views
  pub is_open : (view : ℕ) → (slice_index_or views view spent).live ≡ true → IsOpen lows view
  pub seen : (view purse : ℕ) → (slice_index_or views view spent).live ≡ true →
      seen_last lows view purse ≡ last_low purse (slice_index_or views view spent).notes
