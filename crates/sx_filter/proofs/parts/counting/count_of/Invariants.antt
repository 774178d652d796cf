use Rattle.std.proofs.Common.{◌≡◌, length, take}
use Rattle.sx_filter.proofs.Joined.{all}
use Rattle.sx_filter.proofs.parts.counting.count_of.Given as goal

abbrev pub invariant-loop-list : goal.invariant-loop-list
invariant-loop-list l = l.count ≡ length (all (take l.list-index l.lists))
