use Rattle.sx_bytes.proofs.Written.{flat_map-taken}
use Rattle.sx_state.specs.Encoding.{offer_bytes}
use Rattle.sx_state.proofs.writing.write_offers.Goals as goal

pub loop-offer-preserved : goal.loop-offer-preserved
loop-offer-preserved c =
    flat_map-taken offer_bytes c.args.offers.now c.loop-offer.offer-index c.offer-item.result c.args.to.now
    c.loop-offer.to c.put_offer.new.to c.loop-offer-test.true c.offer-item.is c.loop-offer.invariant
    c.in_ok-put_offer.ensures.ok
