-- What contracts see of a shard and of a seat.
use Rattle.std.specs.Prelude.{◌≡◌, ℕ, List}
use Rattle.atomic_table.specs.Seated.{TableId}
use Rattle.sx_event.specs.View.{View}

-- which table it is, its words at the opening, and the number of candidates
pub record Shown : Type 0 where
  pub id : TableId
  pub purses : List ℕ
  pub bits : List ℕ
  pub count : ℕ

-- the table of the seat, its view, and its copy of the purse words at the opening
pub record Seated : Type 0 where
  pub id : TableId
  pub view : View
  pub opening : List ℕ

-- the seat is of this shard
pub record IsOf (shard : Shown) (seat : Seated) : Type 0 where
  pub id : seat.id ≡ shard.id
  pub opening : seat.opening ≡ shard.purses
