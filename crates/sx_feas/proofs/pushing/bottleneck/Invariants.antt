use Rattle.std.proofs.Common.{ℕ, ◌<◌, ◌≤◌, ◌^◌, take}
use Rattle.std.specs.List.{All}
use Rattle.sx_net.specs.Arcs.{left_of}
use Rattle.sx_feas.proofs.pushing.bottleneck.Given as goal

abbrev pub invariant-loop-arc : goal.invariant-loop-arc
invariant-loop-arc l = record {
  enough : All (λ a. l.least ≤ left_of l.net.arcs a) (take l.arc-index l.net.path);
  some : 1 ≤ l.least;
  most : (m : ℕ) → m < 2 ^ 128 → All (λ a. m ≤ left_of l.net.arcs a) l.net.path → m ≤ l.least;
}
