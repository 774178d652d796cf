use Rattle.std.proofs.Common.{length}
use Rattle.sx_gather.proofs.Loops.{Finishes}
use Rattle.sx_gather.proofs.seal.finish.Given as goal

abbrev pub invariant-loop-shard : goal.invariant-loop-shard
invariant-loop-shard l = Finishes l.fn.shards.items l.fn.seats.items l.shards.items l.seats.items

abbrev pub decreases-loop-shard : goal.decreases-loop-shard
decreases-loop-shard l = length l.shards.items
