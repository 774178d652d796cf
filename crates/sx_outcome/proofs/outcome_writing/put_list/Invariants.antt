use Rattle.std.proofs.Common.{◌≡◌, ◌++◌, length, take}
use Rattle.std.specs.List.{flat_map}
use Rattle.byteorder.specs.Endian.{big_bytes}
use Rattle.sx_outcome.specs.Outcomes.{outcome_bytes}
use Rattle.sx_outcome.proofs.outcome_writing.put_list.Given as goal

abbrev pub invariant-loop-outcome : goal.invariant-loop-outcome
invariant-loop-outcome l =
    l.to ≡ (l.fn.to ++ big_bytes 4 (length l.outcomes)) ++ flat_map outcome_bytes (take l.outcome-index l.outcomes)
