use Rattle.std.proofs.Common.{All}
use Rattle.sx_bench.specs.Quotes.{IsSmall}
use Rattle.sx_bench.proofs.quotes.draw_quotes.Given as goal

-- all quotes that were drawn are small
abbrev pub invariant-loop : goal.invariant-loop
invariant-loop l = All (IsSmall l.fn.assets) l.quotes.items
