use Rattle.std.proofs.Common.{◌≡◌, ◌-◌, ◌*◌, ◌^◌, ◌≤◌, take}
use Rattle.std.specs.Prelude.{sum_by}
use Rattle.sx_ledger.specs.Ledger.{balance_at}
use Rattle.sx_ledger.proofs.totals.held.Given as goal

abbrev pub invariant-loop-account : goal.invariant-loop-account
invariant-loop-account l = record {
  sum : l.held ≡ sum_by (balance_at l.asset) (take l.account-index l.accounts);
  bound : l.held ≤ l.account-index * (2 ^ 64 - 1);
}
