use Rattle.std.proofs.Common.{◌≡◌, take}
use Rattle.sx_tally.proofs.units.widened.Given as goal

abbrev pub invariant-loop-k : goal.invariant-loop-k
invariant-loop-k l = l.wide.items ≡ take l.k l.sums.items
