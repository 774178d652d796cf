use Rattle.std.proofs.Common.{◌≡◌, take}
use Rattle.sx_ledger.proofs.copying.copy_accounts.Given as goal

abbrev pub invariant-loop-account : goal.invariant-loop-account
invariant-loop-account l = l.copy.items ≡ take l.account-index l.entries
