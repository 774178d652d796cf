use Rattle.std.proofs.Common.{◌≡◌, ◌-◌, length}
use Rattle.sx_follow.proofs.follower.Follower.advance_all.Given as goal

abbrev pub invariant-loop : goal.invariant-loop
invariant-loop l = record {
  opening : l.self.opening ≡ l.fn.self.opening;
  blocks : l.self.blocks ≡ l.fn.self.blocks;
}

-- how many blocks may still be applied
abbrev pub decreases-loop : goal.decreases-loop
decreases-loop l = length l.self.blocks - l.self.steps
