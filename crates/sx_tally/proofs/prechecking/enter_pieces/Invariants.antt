use Rattle.std.proofs.Common.{◌<◌, ◌≤◌, ◌+◌, ◌-◌, length, take}
use Rattle.sx_tally.specs.Known.{AreKnown}
use Rattle.sx_tally.specs.Postings.{IsNonePending}
use Rattle.sx_tally.specs.Tally.{IsTally}
use Rattle.sx_tally.proofs.prechecking.enter_pieces.Given as goal

abbrev pub invariant-loop-from : goal.invariant-loop-from
invariant-loop-from g l = record {
  within : l.from + length l.known.items ≤ length l.txs;
  some_slot : l.from < length l.txs → 1 ≤ length l.known.items;
  more_slots : l.from + length l.known.items < length l.txs → 1 ≤ length l.ahead.items;
  known : AreKnown l.ledger l.txs l.from l.known.items;
  none : IsNonePending l.pending;
  tally : IsTally l.ledger (take l.from l.txs) l.tally;
}

abbrev pub decreases-loop-from : goal.decreases-loop-from
decreases-loop-from g l = length l.txs - l.from
