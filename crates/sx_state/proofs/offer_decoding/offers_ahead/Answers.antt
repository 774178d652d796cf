use Rattle.sx_state.proofs.SoundOffers.{listed_is}
use Rattle.sx_state.proofs.offer_decoding.offers_ahead.Goals as goal

pub returns : goal.returns
returns g c =
    listed_is c.args.payload.now c.in_ok-from.from c.field_u32.new.self c.args.assets c.in_ok-count.count
    c.place-place.result c.args.begin c.in_ok-offers.end c.in_ok-offers.offers c.in_ok-from.ensures.reader
    c.in_ok-count.ensures.exact c.in_ok-count.ensures.same c.place-place.ensures.place c.in_ok-offers.ensures
