use Rattle.std.proofs.Common.{ℕ, ◌<◌}
use Rattle.sx_dual.specs.Search.{EachFrom, PairWithin}
use Rattle.sx_dual.proofs.fitting.first_outside.Given as goal

abbrev pub invariant-loop-number : goal.invariant-loop-number
invariant-loop-number l = (s : ℕ) → s < l.number → EachFrom l.bounds.assets (PairWithin l.bounds l.flow) s
