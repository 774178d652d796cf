use Rattle.std.proofs.Common.{◌≡◌, ◌≤◌, ◌+◌, reverse, vec_capacity, vec_len}
use Rattle.sx_net.specs.Trees.{LeadsBack}
use Rattle.sx_net.proofs.search.trace.Given as goal

abbrev pub invariant-loop-at : goal.invariant-loop-at
invariant-loop-at l = record {
  back : LeadsBack l.tree.visits l.at (reverse l.path.items) l.place;
  room : vec_capacity l.path ≡ vec_capacity l.fn.path;
  few : vec_len l.path + l.at ≤ l.place;
}

abbrev pub decreases-loop-at : goal.decreases-loop-at
decreases-loop-at l = l.at
