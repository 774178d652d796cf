use Rattle.std.proofs.Common.{◌≡◌, ◌+◌, inl, inr, arith}
use Rattle.std.proofs.lemmas.Bool.{cases_eq}
use Rattle.sx_circ.specs.Walks.{asset_at, height_at}
use Rattle.sx_circ.proofs.Moving.{can_move_less}
use Rattle.sx_dual.specs.Tables.{entry_at, high_of, low_of}
use Rattle.sx_circ.proofs.cancelling.room_along.Goals as goal

pub loop-place-init : goal.loop-place-init
loop-place-init c = record {
  some = c.room_at-room.ensures.some;
  room = λ k after before.
      let first : k ≡ c.args.cycle.now.first = omega arith in rw first c.room_at-room.ensures.room;
}

pub loop-place-preserved : goal.loop-place-preserved
loop-place-preserved c =
    let bounds = c.args.bounds.now in
    let y = entry_at bounds.assets c.args.values.now in
    let walk = c.args.cycle.now.walk in
    let room = c.min-room.result in
    record {
      some = omega (arith, c.loop-place.invariant.some, c.room_at-other.ensures.some, c.min-room.ensures);
      room = λ k after before.
          elim (cases_eq k c.loop-place.place) [
            | inl here ↦
                rw here
                (can_move_less (low_of bounds) (high_of bounds) y c.room_at-other.result room
                (asset_at walk c.loop-place.place) (asset_at walk (c.loop-place.place + 1))
                (height_at walk c.loop-place.place) (height_at walk (c.loop-place.place + 1))
                (omega (arith, c.min-room.ensures)) c.room_at-other.ensures.room)
            | inr other ↦
                can_move_less (low_of bounds) (high_of bounds) y c.loop-place.room room (asset_at walk k)
                (asset_at walk (k + 1)) (height_at walk k) (height_at walk (k + 1))
                (omega (arith, c.min-room.ensures)) (c.loop-place.invariant.room k after (omega arith))
          ];
    }
