use Rattle.std.proofs.Common.{◌≡◌}
use Rattle.sx_ledger.specs.PlaceTable.{IsFilled}
use Rattle.sx_ledger.proofs.place_table.PlaceTable.filled.Given as goal

abbrev pub invariant-loop-place : goal.invariant-loop-place
invariant-loop-place l = (l.table.first ≡ l.first) × IsFilled l.entries l.place l.table
