use Rattle.std.proofs.Common.{ℕ, ◌<◌, ◌≢◌}
use Rattle.sx_dual.specs.Search.{PairWithin}
use Rattle.sx_dual.proofs.fitting.outside_from.Given as goal

abbrev pub invariant-loop-number : goal.invariant-loop-number
invariant-loop-number l = (b : ℕ) → b < l.number → l.sell ≢ b → PairWithin l.bounds l.flow l.sell b
