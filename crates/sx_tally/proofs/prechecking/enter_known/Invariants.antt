use Rattle.std.proofs.Common.{◌≤◌, ◌+◌, ◌-◌, length, take}
use Rattle.sx_tally.specs.Postings.{IsNonePending}
use Rattle.sx_tally.specs.Tally.{IsTally}
use Rattle.sx_tally.proofs.prechecking.enter_known.Given as goal

abbrev pub invariant-loop-done : goal.invariant-loop-done
invariant-loop-done l = record {
  within : l.done ≤ length l.known;
  none : IsNonePending l.pending;
  tally : IsTally l.ledger (take (l.from + l.done) l.txs) l.tally;
}

abbrev pub decreases-loop-done : goal.decreases-loop-done
decreases-loop-done l = length l.known - l.done
