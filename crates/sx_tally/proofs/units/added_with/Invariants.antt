use Rattle.std.proofs.Common.{◌≡◌, ◌+◌, take}
use Rattle.sx_tally.specs.Sums.{amounts_of}
use Rattle.sx_tally.proofs.units.added_with.Given as goal

abbrev pub invariant-loop-k : goal.invariant-loop-k
invariant-loop-k l = l.total ≡ l.added + amounts_of (take l.k l.entries)
