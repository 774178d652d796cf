use Rattle.std.proofs.Common.{◌≡◌, ◌+◌, ◌-◌, ◌<◌, ◌≤◌, length}
use Rattle.sx_gather.specs.Passes.{IsPassOf}
use Rattle.sx_script.specs.Actors.{part_begin}
use Rattle.sx_workers.specs.Passing.{AreHeld, IsDone}
use Rattle.sx_workers.proofs.gathering.join_all.Given as goal

abbrev pub invariant-loop-slot : goal.invariant-loop-slot
invariant-loop-slot l =
    IsPassOf l.gather l.whole × (l.whole.from ≡ 0)
    × (l.whole.next ≡ part_begin (length l.gather.candidates) l.n (l.n - length l.slots.items))
    × (l.whole.end ≡ l.whole.next) × (length l.gather.candidates ≤ l.whole.next + l.whole.spare)
    × (length l.slots.items < l.n) × AreHeld (IsDone l.gather l.n) l.n l.slots.items

abbrev pub decreases-loop-slot : goal.decreases-loop-slot
decreases-loop-slot l = length l.slots.items
