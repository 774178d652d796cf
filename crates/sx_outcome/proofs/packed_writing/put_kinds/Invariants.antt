use Rattle.std.proofs.Common.{◌++◌, ◌-◌, ◌≤◌, length}
use Rattle.byteorder.specs.Endian.{big_bytes}
use Rattle.sx_outcome.proofs.PackedSteps.{IsWritten}
use Rattle.sx_outcome.proofs.packed_writing.put_kinds.Given as goal

abbrev pub invariant-loop-place : goal.invariant-loop-place
invariant-loop-place l = record {
  within : l.place ≤ length l.kinds;
  written : IsWritten l.kinds l.overdrafts (l.fn.to ++ big_bytes 4 (length l.kinds)) l.to l.place l.next;
}

-- each turn passes an outcome or more
abbrev pub decreases-loop-place : goal.decreases-loop-place
decreases-loop-place l = length l.kinds - l.place
