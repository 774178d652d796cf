use Rattle.std.proofs.Common.{◌≡◌, ℕ, ◌+◌, List, vec_len, vec_capacity}
use Rattle.sx_links.specs.Pool.{Mutual, Holds}
use Rattle.sx_links.proofs.pool.Pool.grow.Given as goal

abbrev pub invariant-loop-added : goal.invariant-loop-added
invariant-loop-added g l = record {
  agrees : Mutual l.self;
  chains : (lists : List (List (ℕ × g.row.T.Denot))) (n : ℕ) → Holds l.initial.self lists n →
      Holds l.self lists (n + l._added);
  nodes : vec_len l.self.nodes ≡ vec_len l.initial.self.nodes + l._added;
  capacity : vec_capacity l.self.nodes ≡ vec_capacity l.initial.self.nodes;
}
