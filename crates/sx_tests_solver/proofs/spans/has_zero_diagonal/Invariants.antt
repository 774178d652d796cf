use Rattle.std.proofs.Common.{◌≡◌, ℕ, ◌<◌}
use Rattle.sx_dual.specs.Tables.{entry_at}
use Rattle.sx_tests_solver.proofs.spans.has_zero_diagonal.Given as goal

abbrev pub invariant-loop-asset : goal.invariant-loop-asset
invariant-loop-asset l = (k : ℕ) → k < l.asset → entry_at l.assets l.entries k k ≡ 0
