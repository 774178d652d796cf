use Rattle.std.proofs.Common.{◌≡◌, ◌≤◌}
use Rattle.sx_follow.specs.Follower.{IsFollower}
use Rattle.sx_follow.proofs.follower.Follower.advance_one_by_one.Given as goal

abbrev pub invariant-loop : goal.invariant-loop
invariant-loop g l = record {
  opening : l.self.opening ≡ l.fn.self.opening;
  blocks : l.self.blocks ≡ l.fn.self.blocks;
  steps : l.fn.self.steps ≤ l.self.steps;
  follows : IsFollower l.self;
}
