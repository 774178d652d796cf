use Rattle.std.proofs.Common.{ℕ, ◌<◌}
use Rattle.sx_dual.specs.Search.{EachFrom, PairTight}
use Rattle.sx_dual.proofs.fitting.first_slack.Given as goal

abbrev pub invariant-loop-number : goal.invariant-loop-number
invariant-loop-number l =
    (s : ℕ) → s < l.number → EachFrom l.bounds.assets (PairTight l.bounds l.flow l.potentials) s
