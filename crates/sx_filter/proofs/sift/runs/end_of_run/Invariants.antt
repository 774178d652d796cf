use Rattle.std.proofs.Common.{◌≡◌, ℕ, ◌<◌, ◌≤◌, get_or}
use Rattle.sx_filter.proofs.sift.runs.end_of_run.Given as goal
use Rattle.sx_tx.specs.declared.tx.Tx.{Tx}

abbrev pub invariant-loop-end : goal.invariant-loop-end
invariant-loop-end l =
    (k : ℕ) (d : Tx) → l.start ≤ k → k < l.end
    → (get_or l.txs k d).account.0 ≡ (get_or l.txs l.start d).account.0
