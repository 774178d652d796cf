-- What a body changes the offers of a ledger to.
use Rattle.std.specs.Prelude.{List}
use Rattle.sx_tally.specs.declared.after.offers.OfferChange.{OfferChange}
use Rattle.sx_tally.specs.declared.after.offers.OfferChange.TheVariants as offer_change
use Rattle.sx_ledger.specs.declared.offer.Offer.{Offer}

-- the offers after the body, of those before it
abbrev pub changed_by : OfferChange → List Offer → List Offer
changed_by offer_change.Same before = before
changed_by (offer_change.To after) before = after
