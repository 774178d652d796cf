use Rattle.std.proofs.Common.{length}
use Rattle.sx_gather.proofs.Loops.{Joins}
use Rattle.sx_gather.proofs.gather.Gather.join_seats.Given as goal

abbrev pub invariant-loop-other : goal.invariant-loop-other
invariant-loop-other l = Joins l.self.shards l.fn.seats l.fn.others.items l.seats l.others.items

abbrev pub decreases-loop-other : goal.decreases-loop-other
decreases-loop-other l = length l.others.items
