use Rattle.std.proofs.Common.{◌≡◌, ◌<◌, ℕ, length, get_or}
use Rattle.sx_demand.specs.Table.{AreColumns, out_in}
use Rattle.sx_demand.proofs.sums.write_sums.Given as goal

abbrev pub invariant-loop-sell : goal.invariant-loop-sell
invariant-loop-sell l = record {
  size : length l.columns ≡ length l.fn.columns;
  columns : AreColumns l.entries l.sell l.columns;
  rows : (k d : ℕ) → k < l.sell → get_or l.rows k d ≡ out_in l.entries (length l.fn.columns) k;
}
