use Rattle.std.proofs.Common.{◌≡◌, ◌++◌, ◌*◌}
use Rattle.sx_gen.specs.Candidates.{offers_from}
use Rattle.sx_gen.specs.Drawing.{state_after}
use Rattle.sx_gen.proofs.candidates.with_offers.Given as goal

-- the offers before this place, by four words each
abbrev pub invariant-loop-i : goal.invariant-loop-i
invariant-loop-i l = record {
  txs : l.txs.items ≡ l.initial.txs.items ++ offers_from l.initial.generator l.i;
  after : l.generator ≡ state_after (4 * l.i) l.initial.generator;
}
