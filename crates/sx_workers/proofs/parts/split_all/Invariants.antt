use Rattle.std.proofs.Common.{◌≡◌, ◌+◌, ◌-◌, ◌≤◌, length}
use Rattle.sx_gather.specs.Passes.{IsPassOf}
use Rattle.sx_script.specs.Actors.{part_begin}
use Rattle.sx_workers.specs.Passing.{AreHeld, IsWaiting}
use Rattle.sx_workers.proofs.parts.split_all.Given as goal

abbrev pub invariant-loop-made : goal.invariant-loop-made
invariant-loop-made l =
    IsPassOf l.gather l.first × (l.first.from ≡ 0) × (l.first.next ≡ 0) × (l.first.spare ≡ l.count)
    × (l.first.end ≡ part_begin l.count l.n (l.n + 1 - l.made)) × (length l.slots.items + 1 ≡ l.made)
    × (1 ≤ l.made) × (l.made ≤ l.n) × AreHeld (IsWaiting l.gather l.n) l.n l.slots.items
