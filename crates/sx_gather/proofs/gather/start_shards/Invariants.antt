use Rattle.sx_gather.specs.Start.{Starts}
use Rattle.sx_gather.proofs.gather.start_shards.Given as goal

abbrev pub invariant-loop-k : goal.invariant-loop-k
invariant-loop-k l = Starts l.setting l.k l.shards.items l.seats.items
