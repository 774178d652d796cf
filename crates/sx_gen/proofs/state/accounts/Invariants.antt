use Rattle.std.proofs.Common.{◌≡◌}
use Rattle.sx_gen.specs.State.{accounts_of}
use Rattle.sx_gen.proofs.state.accounts.Given as goal

abbrev pub invariant-loop-i : goal.invariant-loop-i
invariant-loop-i l = l.accounts.items ≡ accounts_of l.i
