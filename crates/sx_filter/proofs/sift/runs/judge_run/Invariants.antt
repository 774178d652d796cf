use Rattle.std.proofs.Common.{◌≡◌, ℕ, ◌<◌, ◌≤◌, Bool, get_or, length}
use Rattle.sx_filter.specs.Alone.{is_covered, is_fit}
use Rattle.sx_filter.specs.Verdicts.{IsVerdict}
use Rattle.sx_filter.proofs.sift.runs.judge_run.Given as goal
use Rattle.sx_ledger.specs.declared.parts.Parts.{Parts}

abbrev pub invariant-loop-place : goal.invariant-loop-place
invariant-loop-place l = record {
  one_each : length l.verdicts ≡ length l.txs;
  others : (k : ℕ) (d : Bool) → k < l.start → get_or l.verdicts k d ≡ get_or l.fn.verdicts k d;
  told : (parts : Parts) (k : ℕ) (d : Bool) → l.start ≤ k → k < l.place
      → IsVerdict (is_covered parts l.txs) l.txs k l.covered
      → IsVerdict (is_fit parts l.txs) l.txs k (get_or l.verdicts k d);
}
