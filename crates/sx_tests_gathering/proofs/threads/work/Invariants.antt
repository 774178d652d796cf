use Rattle.std.proofs.Common.{◌≡◌}
use Rattle.sx_shard.specs.Models.{IsOf}
use Rattle.sx_tests_gathering.proofs.threads.work.Given as goal

-- the seat is of the shard, with the range that it had
abbrev pub invariant-loop-bit : goal.invariant-loop-bit
invariant-loop-bit l =
    IsOf l.shard l.seat × (l.seat.view.from ≡ l.fn.seat.view.from) × (l.seat.view.end ≡ l.fn.seat.view.end)
