use Rattle.std.proofs.Common.{take}
use Rattle.std.specs.Prelude.{All}
use Rattle.sx_tally.specs.SortNumbers.{IsInRange}
use Rattle.sx_tally.proofs.after.sorting.offer_ranges.Given as goal

abbrev pub invariant-loop-offer : goal.invariant-loop-offer
invariant-loop-offer l = All IsInRange (take l.offer-index l.offers)
