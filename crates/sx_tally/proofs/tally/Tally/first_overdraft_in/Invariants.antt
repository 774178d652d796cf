use Rattle.sx_tally.specs.Overdraft.{AreCovered}
use Rattle.sx_tally.proofs.tally.Tally.first_overdraft_in.Given as goal

abbrev pub invariant-loop-place : goal.invariant-loop-place
invariant-loop-place l = AreCovered l.version l.ledger l.self.postings l.from l.place
