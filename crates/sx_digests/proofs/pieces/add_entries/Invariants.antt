use Rattle.std.proofs.Common.{◌≡◌, ℕ, ◌≤◌, ◌-◌, List, [], ◌++◌, length, take}
use Rattle.std.specs.List.{flat_map}
use Rattle.sha2.specs.Hashers.{Holds256}
use Rattle.sx_digests.proofs.pieces.add_entries.Given as goal

abbrev pub invariant-loop-done : goal.invariant-loop-done
invariant-loop-done g l = record {
  within : l.done ≤ length l.entries;
  holds : (m : List ℕ) → Holds256 l.fn.hasher m
      → Holds256 l.hasher (m ++ flat_map (g.E.Encoder.encode l.encoder) (take l.done l.entries));
  emptied : l.piece ≡ [];
}

abbrev pub decreases-loop-done : goal.decreases-loop-done
decreases-loop-done g l = length l.entries - l.done
