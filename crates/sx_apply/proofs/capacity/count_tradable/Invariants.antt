use Rattle.std.proofs.Common.{◌+◌, ◌≤◌, length}
use Rattle.sx_apply.proofs.capacity.count_tradable.Given as goal

abbrev pub invariant-loop-first : goal.invariant-loop-first
invariant-loop-first l = l.count + length l.left ≤ length l.offers

abbrev pub decreases-loop-first : goal.decreases-loop-first
decreases-loop-first l = length l.left
