use Rattle.std.proofs.Common.{ℕ, ◌<◌}
use Rattle.sx_dual.specs.Circulation.{IsBalanced}
use Rattle.sx_dual.specs.Tables.{value_of}
use Rattle.sx_dual.proofs.balance.first_unbalanced.Given as goal

abbrev pub invariant-loop-number : goal.invariant-loop-number
invariant-loop-number l = (a : ℕ) → a < l.number → IsBalanced l.flow.assets (value_of l.flow) a
