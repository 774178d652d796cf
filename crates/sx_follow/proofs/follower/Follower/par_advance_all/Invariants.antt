use Rattle.std.proofs.Common.{◌≡◌, ◌-◌, length}
use Rattle.sx_follow.specs.Bodies.{AreBodies}
use Rattle.sx_follow.proofs.follower.Follower.par_advance_all.Given as goal

abbrev pub invariant-loop-bodies : goal.invariant-loop-bodies
invariant-loop-bodies g l = record {
  opening : l.self.opening ≡ l.fn.self.opening;
  blocks : l.self.blocks ≡ l.fn.self.blocks;
  bodies : AreBodies l.self.blocks l.bodies;
}

-- how many blocks may still be applied
abbrev pub decreases-loop-bodies : goal.decreases-loop-bodies
decreases-loop-bodies g l = length l.self.blocks - l.self.steps
