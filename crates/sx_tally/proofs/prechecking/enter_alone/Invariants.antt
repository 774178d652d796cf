use Rattle.std.proofs.Common.{◌≤◌, ◌-◌, length, take}
use Rattle.sx_tally.specs.Postings.{IsNonePending}
use Rattle.sx_tally.specs.Tally.{IsTally}
use Rattle.sx_tally.proofs.prechecking.enter_alone.Given as goal

abbrev pub invariant-loop-from : goal.invariant-loop-from
invariant-loop-from l = record {
  within : l.from ≤ length l.txs;
  some_slot : 1 ≤ length l.slots;
  none : IsNonePending l.pending;
  tally : IsTally l.ledger (take l.from l.txs) l.tally;
}

abbrev pub decreases-loop-from : goal.decreases-loop-from
decreases-loop-from l = length l.txs - l.from
