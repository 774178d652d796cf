use Rattle.std.proofs.Common.{All, take}
use Rattle.sx_tests_solver.proofs.SmallMarket.{IsSmall}
use Rattle.sx_tests_solver.proofs.curve.are_small.Given as goal

abbrev pub invariant-loop-quote : goal.invariant-loop-quote
invariant-loop-quote l = All IsSmall (take l.quote-index l.quotes)
