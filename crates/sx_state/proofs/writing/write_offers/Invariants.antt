use Rattle.std.proofs.Common.{◌≡◌, ◌++◌, take}
use Rattle.std.specs.List.{flat_map}
use Rattle.sx_state.specs.Encoding.{offer_bytes}
use Rattle.sx_state.proofs.writing.write_offers.Given as goal

abbrev pub invariant-loop-offer : goal.invariant-loop-offer
invariant-loop-offer l = l.to ≡ l.fn.to ++ flat_map offer_bytes (take l.offer-index l.offers)
