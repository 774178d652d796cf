use Rattle.std.proofs.Common.{ℕ, ◌<◌, ◌≢◌}
use Rattle.sx_dual.specs.Search.{PairTight}
use Rattle.sx_dual.proofs.fitting.slack_from.Given as goal

abbrev pub invariant-loop-number : goal.invariant-loop-number
invariant-loop-number l =
    (b : ℕ) → b < l.number → l.sell ≢ b → PairTight l.bounds l.flow l.potentials l.sell b
