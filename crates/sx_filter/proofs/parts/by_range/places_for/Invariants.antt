use Rattle.std.proofs.Common.{◌≡◌, length}
use Rattle.sx_filter.proofs.parts.by_range.places_for.Given as goal

abbrev pub invariant-loop : goal.invariant-loop
invariant-loop l = length l.places.items ≡ l.counter
