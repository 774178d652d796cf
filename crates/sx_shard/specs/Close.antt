-- The words at the end, where one seat has all candidates.
use Rattle.std.specs.Prelude.{◌≡◌, ℕ, List, All}
use Rattle.sx_event.specs.View.{View}
use Rattle.sx_event.specs.State.{view_of}
use Rattle.sx_event.specs.Rule.{Rule, PursesAddUp, BitsAddUp, LowFits, SetFits, debits, times}
use Rattle.sx_shard.specs.Models.{Shown}

-- the core's rule holds of these words and of the views of all seats, of which this is one
pub record IsState (shard : Shown) (view : View) (purses bits : List ℕ) : Type 0 where
  pub views : List View
  pub name : ℕ
  pub rule : Rule record {
    opening_purses = shard.purses;
    opening_bits = shard.bits;
    count = shard.count;
    purses = purses;
    bits = bits;
    views = views;
  }
  pub seat : view_of record {
    opening_purses = shard.purses;
    opening_bits = shard.bits;
    count = shard.count;
    purses = purses;
    bits = bits;
    views = views;
  } name ≡ view

-- what was taken from the words is what the seat has claimed, and its notes are true
pub record Ends (shard : Shown) (view : View) (purses bits : List ℕ) : Type 0 where
  pub state : IsState shard view purses bits
  pub purses_add_up : PursesAddUp shard.purses purses (debits view.claims)
  pub bits_add_up : BitsAddUp shard.bits bits (times view.claims)
  pub lows : All (LowFits shard.purses purses) view.notes
  pub sets : All (SetFits bits) view.notes

-- there are words at which the shard ends so
pub record HasEnded (shard : Shown) (view : View) : Type 0 where
  pub purses : List ℕ
  pub bits : List ℕ
  pub ends : Ends shard view purses bits
