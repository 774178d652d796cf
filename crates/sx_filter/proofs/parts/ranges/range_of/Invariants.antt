use Rattle.std.proofs.Common.{◌≡◌, ◌≤◌, take}
use Rattle.sx_filter.proofs.parts.ranges.range_of.Given as goal
use Rattle.sx_filter.specs.Ranges.{range_among}

abbrev pub invariant-loop-cut : goal.invariant-loop-cut
invariant-loop-cut l = record {
  is : l.range ≡ range_among (take l.cut-index l.cuts) l.account;
  below : l.range ≤ l.cut-index;
}
