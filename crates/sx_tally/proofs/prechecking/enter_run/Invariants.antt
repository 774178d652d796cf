use Rattle.std.proofs.Common.{◌+◌, take}
use Rattle.sx_tally.specs.Tally.{IsTallyWithPending}
use Rattle.sx_tally.proofs.prechecking.enter_run.Given as goal

abbrev pub invariant-loop-k : goal.invariant-loop-k
invariant-loop-k l = IsTallyWithPending l.ledger (take (l.from + l.k) l.txs) l.pending l.tally
