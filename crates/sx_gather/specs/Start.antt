-- How a gathering starts, and when it is refused.
use Rattle.std.specs.Prelude.{◌≡◌, ℕ, ◌<◌, List, length, slice_get, Some, Result, Err}
use Rattle.sx_event.specs.View.{opened}
use Rattle.sx_gather.specs.declared.fault.GatherFault.{GatherFault}
use Rattle.sx_gather.specs.declared.fault.GatherFault.TheVariants as fault
use Rattle.sx_outcome.specs.declared.space.NoRoom.{NoRoom}
use Rattle.sx_outcome.specs.declared.space.NoRoom.TheVariants as no_room
use Rattle.sx_layout.specs.Plan.{words_of}
use Rattle.sx_layout.specs.Setting.{Setting}
use Rattle.sx_shard.specs.Models.{IsOf, Seated, Shown}
use Rattle.sx_gather.specs.Passes.{view_at}

-- the fault that says why there is no room
abbrev pub fault_of : NoRoom → GatherFault
fault_of no_room.Ended = fault.Ended
fault_of (no_room.Crowded have more limit) = fault.Crowded have more limit

-- memory ran out, or there is no room
abbrev pub IsFaultOf : Result (Unit {0}) NoRoom → GatherFault → Type 0
IsFaultOf room fault.NoMemory = Unit {0}
IsFaultOf room fault.Ended = room ≡ Err no_room.Ended
IsFaultOf room (fault.Crowded have more limit) = room ≡ Err (no_room.Crowded have more limit)

-- ---- the shards

-- so many of the shards are started, each with its opening words and with a first seat that has all candidates
pub record Starts (setting : Setting) (many : ℕ) (shards : List Shown) (seats : List Seated) : Type 0 where
  pub many_shards : length shards ≡ many
  pub many_seats : length seats ≡ many
  pub purses : (k : ℕ) (shard : Shown) → slice_get shards k ≡ Some shard
      → shard.purses ≡ words_of setting.plan.purses k
  pub bits : (k : ℕ) (shard : Shown) → slice_get shards k ≡ Some shard → shard.bits ≡ words_of setting.plan.bits k
  pub count : (k : ℕ) (shard : Shown) → slice_get shards k ≡ Some shard → shard.count ≡ length setting.candidates
  pub of : (k : ℕ) (shard : Shown) (seat : Seated) → slice_get shards k ≡ Some shard → slice_get seats k ≡ Some seat
      → IsOf shard seat
  pub views : (k : ℕ) → k < many → view_at seats k ≡ opened 0 (length setting.candidates)

-- all of them are
abbrev pub StartsAll : Setting → List Shown → List Seated → Type 0
StartsAll setting shards seats = Starts setting setting.plan.shards shards seats
