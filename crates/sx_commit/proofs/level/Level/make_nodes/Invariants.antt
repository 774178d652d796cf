use Rattle.std.proofs.Common.{◌≡◌, ℕ, ◌<◌, List, length, get_or}
use Rattle.sx_commit.specs.Levels.{node_at}
use Rattle.sx_commit.proofs.level.Level.make_nodes.Given as goal

abbrev pub invariant-loop-place : goal.invariant-loop-place
invariant-loop-place l =
    record {
      length : length l.digests ≡ length l.fn.digests;
      nodes : (place : ℕ) (d : List ℕ) → place < l.place → get_or l.digests place d ≡ node_at l.self place;
    }
