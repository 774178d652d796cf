use Rattle.std.proofs.Common.{◌≡◌, ◌++◌, ◌*◌}
use Rattle.sx_gen.specs.Candidates.{payments_from}
use Rattle.sx_gen.specs.Drawing.{state_after}
use Rattle.sx_gen.proofs.candidates.with_payments.Given as goal

-- the payments before this place, by three words each
abbrev pub invariant-loop-i : goal.invariant-loop-i
invariant-loop-i l = record {
  txs : l.txs.items ≡ l.initial.txs.items ++ payments_from l.initial.generator l.i;
  after : l.generator ≡ state_after (3 * l.i) l.initial.generator;
}
