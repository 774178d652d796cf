use Rattle.std.proofs.Common.{◌≡◌, take}
use Rattle.sx_outcome.specs.Packed.{outcomes_of}
use Rattle.sx_outcome.proofs.PackedLaws.{AreLeft}
use Rattle.sx_outcome.proofs.packed_outcomes.unpacked.Given as goal

abbrev pub invariant-loop-kind : goal.invariant-loop-kind
invariant-loop-kind l = record {
  left : AreLeft l.kinds l.overdrafts l.kind-index l.next;
  found : l.list.items ≡ take l.kind-index (outcomes_of l.kinds l.overdrafts);
}
