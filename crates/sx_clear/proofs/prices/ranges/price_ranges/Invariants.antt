use Rattle.std.proofs.Common.{All, take}
use Rattle.sx_price.specs.Limits.{IsPrice}
use Rattle.sx_clear.proofs.prices.ranges.price_ranges.Given as goal

abbrev pub invariant-loop-price : goal.invariant-loop-price
invariant-loop-price l = All IsPrice (take l.price-index l.prices)
