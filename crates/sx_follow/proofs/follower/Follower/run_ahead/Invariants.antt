use Rattle.std.proofs.Common.{◌≡◌, ℕ, ◌+◌, ◌-◌, ◌*◌, ◌≤◌, Option, None, Some, length}
use Rattle.std.specs.Prelude.{IfSome}
use Rattle.sx_block.specs.Validity.{digest_of_ledger}
use Rattle.sx_follow.specs.Ahead.{IsBatch}
use Rattle.sx_follow.specs.Follower.{IsFollower}
use Rattle.sx_follow.specs.declared.ahead.batch.Batch.{Batch}
use Rattle.sx_follow.proofs.follower.Follower.run_ahead.Given as goal

abbrev pub invariant-loop-batch : goal.invariant-loop-batch
invariant-loop-batch g l = record {
  opening : l.self.opening ≡ l.fn.self.opening;
  blocks : l.self.blocks ≡ l.fn.self.blocks;
  steps : l.fn.self.steps ≤ l.self.steps;
  ahead : IfSome l.batch (IsBatch l.self.head (digest_of_ledger l.self.head) l.self.blocks);
  follows : IsFollower l.self;
}

-- whether some are applied ahead
abbrev some : Option Batch → ℕ
some None = 0
some (Some batch) = 1

-- how many blocks may still be applied, and whether some are applied ahead
abbrev pub decreases-loop-batch : goal.decreases-loop-batch
decreases-loop-batch g l = 2 * (length l.self.blocks - l.self.steps) + some l.batch
