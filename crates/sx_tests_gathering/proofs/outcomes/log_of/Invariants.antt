use Rattle.std.proofs.Common.{◌≡◌, ◌+◌, length, take}
use Rattle.sx_tests_gathering.proofs.outcomes.log_of.Given as goal

abbrev pub invariant-loop-outcome : goal.invariant-loop-outcome
invariant-loop-outcome l = record {
  logged : l.log.outcomes ≡ take l.outcome-index l.items;
  room : l.log.spare + l.outcome-index ≡ length l.items;
}
