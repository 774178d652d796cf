use Rattle.std.proofs.Common.{◌≡◌, true, take}
use Rattle.sx_filter.specs.Kept.{covers}
use Rattle.sx_filter.specs.Runs.{AreSums}
use Rattle.sx_filter.proofs.sift.runs.is_covered.Given as goal
use Rattle.sx_ledger.specs.Ledger.{assets_of}

abbrev pub invariant-loop-tx : goal.invariant-loop-tx
invariant-loop-tx l = record {
  sums : AreSums l.ledger (take l.tx-index l.run) l.fn.account.0 l.sums;
  covered : covers l.ledger (take l.tx-index l.run) l.fn.account.0 (assets_of l.ledger) ≡ true;
}
