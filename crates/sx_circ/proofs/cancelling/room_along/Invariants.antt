use Rattle.std.proofs.Common.{ℕ, ◌<◌, ◌≤◌}
use Rattle.sx_circ.specs.Walks.{CanMoveAt}
use Rattle.sx_dual.specs.Tables.{entry_at, high_of, low_of}
use Rattle.sx_circ.proofs.cancelling.room_along.Given as goal

abbrev pub invariant-loop-place : goal.invariant-loop-place
invariant-loop-place l = record {
  some : 0 < l.room;
  room : (k : ℕ) → l.cycle.first ≤ k → k < l.place →
      CanMoveAt (low_of l.bounds) (high_of l.bounds) (entry_at l.bounds.assets l.values) l.room l.cycle.walk k;
}
