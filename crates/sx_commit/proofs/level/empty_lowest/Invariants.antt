use Rattle.std.proofs.Common.{◌≡◌}
use Rattle.sx_commit.specs.Levels.{nothing_at}
use Rattle.sx_commit.proofs.level.empty_lowest.Given as goal

abbrev pub invariant-loop : goal.invariant-loop
invariant-loop l = l.empty ≡ nothing_at l.counter
