use Rattle.std.proofs.Common.{◌≡◌, ◌++◌, replicate}
use Rattle.sx_tally.specs.Accounts.{fresh}
use Rattle.sx_tally.proofs.after.created.push_free.Given as goal

abbrev pub invariant-loop : goal.invariant-loop
invariant-loop l = l.accounts.items ≡ l.fn.accounts.items ++ replicate l.counter (fresh 0 0)
