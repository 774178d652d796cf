use Rattle.std.proofs.Common.{◌≤◌, ◌-◌, length, take}
use Rattle.std.specs.List.{All}
use Rattle.sx_follow.specs.Ahead.{IsRight}
use Rattle.sx_follow.proofs.ahead.hashing.right_in_turn.Given as goal

abbrev pub invariant-loop-count : goal.invariant-loop-count
invariant-loop-count l = (l.count ≤ length l.claims) × All IsRight (take l.count l.claims)

abbrev pub decreases-loop-count : goal.decreases-loop-count
decreases-loop-count l = length l.claims - l.count
