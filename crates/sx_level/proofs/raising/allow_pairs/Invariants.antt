use Rattle.std.proofs.Common.{◌≡◌, ℕ, ◌+◌, ◌*◌, ◌/◌, ◌%◌, ◌<◌, ◌≤◌}
use Rattle.std.specs.Prelude.{◌==◌, slice_index}
use Rattle.sx_net.specs.Arcs.{is_allowed}
use Rattle.sx_level.specs.Shape.{SameButAllowed}
use Rattle.sx_level.proofs.raising.allow_pairs.Given as goal

abbrev pub invariant-loop-place : goal.invariant-loop-place
invariant-loop-place l = record {
  nodes : l.net.nodes ≡ l.initial.net.nodes;
  kept : SameButAllowed l.initial.net.arcs l.net.arcs;
  forth : (k : ℕ) → k < l.place → is_allowed l.net.arcs (2 * k)
      ≡ (slice_index l.heights (k % l.bounds.assets) == slice_index l.heights (k / l.bounds.assets) + 1);
  back : (k : ℕ) → k < l.place → is_allowed l.net.arcs (2 * k + 1)
      ≡ (slice_index l.heights (k % l.bounds.assets) == slice_index l.heights (k / l.bounds.assets) + 1);
  others : (a : ℕ) → 2 * l.place ≤ a → is_allowed l.net.arcs a ≡ is_allowed l.initial.net.arcs a;
}
