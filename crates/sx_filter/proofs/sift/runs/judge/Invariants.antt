use Rattle.std.proofs.Common.{◌≡◌, ℕ, ◌-◌, ◌<◌, ◌≤◌, Bool, get_or, length}
use Rattle.sx_filter.specs.Alone.{is_fit}
use Rattle.sx_filter.specs.Runs.{Begins}
use Rattle.sx_filter.specs.Verdicts.{IsVerdict}
use Rattle.sx_filter.proofs.sift.runs.judge.Given as goal

abbrev pub invariant-loop-start : goal.invariant-loop-start
invariant-loop-start l = record {
  within : l.start ≤ length l.txs;
  begins : Begins l.txs l.start;
  one_each : length l.verdicts ≡ length l.txs;
  told : (k : ℕ) (d : Bool) → k < l.start → IsVerdict (is_fit l.ledger l.txs) l.txs k (get_or l.verdicts k d);
}

abbrev pub decreases-loop-start : goal.decreases-loop-start
decreases-loop-start l = length l.txs - l.start
