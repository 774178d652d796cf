use Rattle.std.proofs.Common.{◌≡◌, map, take}
use Rattle.sx_follow.specs.Bodies.{body_above}
use Rattle.sx_follow.proofs.ahead.bodies.digests_in_turn.Given as goal

abbrev pub invariant-loop-place : goal.invariant-loop-place
invariant-loop-place l = l.digests.items ≡ map (body_above l.height) (take l.place l.blocks)
