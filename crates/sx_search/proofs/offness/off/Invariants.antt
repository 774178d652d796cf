use Rattle.std.proofs.Common.{◌≡◌, ◌*◌, ◌^◌, ◌≤◌, sum_by, take, unsigned_abs}
use Rattle.sx_search.proofs.offness.off.Given as goal

abbrev pub invariant-loop-net : goal.invariant-loop-net
invariant-loop-net l = record {
  sum : l.sum ≡ sum_by unsigned_abs (take l.net-index l.nets);
  bound : l.sum ≤ l.net-index * 2 ^ 107;
}
