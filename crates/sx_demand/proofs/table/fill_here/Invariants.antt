use Rattle.std.proofs.Common.{◌<◌, ℕ, get_or}
use Rattle.sx_demand.specs.declared.table.Entry.{Entry}
use Rattle.sx_demand.specs.Table.{IsSoldAt}
use Rattle.sx_demand.proofs.table.fill_here.Given as goal

abbrev pub invariant-loop-place : goal.invariant-loop-place
invariant-loop-place l =
    (k : ℕ) (d : Entry) → k < l.place → IsSoldAt l.curves.quotes l.prices l.mu k (get_or l.entries k d).value
