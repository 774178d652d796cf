use Rattle.std.proofs.Common.{length}
use Rattle.sx_event.proofs.Bucketing.{IsOnWay}
use Rattle.sx_event.proofs.tables.find.Given as goal

abbrev pub invariant-walk : goal.invariant-walk
invariant-walk l = IsOnWay (length l.heads) l.log l.table l.purse l.place

abbrev pub decreases-walk : goal.decreases-walk
decreases-walk l = l.place
