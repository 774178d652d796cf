use Rattle.sx_tally.specs.Overdraft.{CoversBelow}
use Rattle.sx_tally.proofs.overdraft.overdrawn_asset.Given as goal

abbrev pub invariant-loop-asset : goal.invariant-loop-asset
invariant-loop-asset l = CoversBelow l.asset l.version l.balances l.postings l.place
