use Rattle.std.proofs.Common.{◌≡◌, take}
use Rattle.sx_multi.specs.Quotes.{quotes_of}
use Rattle.sx_clear.proofs.prices.curves.curves_in_order.Given as goal

abbrev pub invariant-loop-offer : goal.invariant-loop-offer
invariant-loop-offer l = l.builder ≡ take l.offer-index (quotes_of l.offers)
