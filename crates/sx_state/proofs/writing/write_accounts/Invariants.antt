use Rattle.std.proofs.Common.{◌≡◌, ◌++◌, take}
use Rattle.std.specs.List.{flat_map}
use Rattle.sx_state.specs.Encoding.{account_bytes}
use Rattle.sx_state.proofs.writing.write_accounts.Given as goal

abbrev pub invariant-loop-account : goal.invariant-loop-account
invariant-loop-account l = l.to ≡ l.fn.to ++ flat_map (account_bytes l.version) (take l.account-index l.accounts)
