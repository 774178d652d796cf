use Rattle.sx_clear.proofs.OfferLaws.{offers_are}
use Rattle.sx_clear.proofs.prices.curves.curves_of.Goals as goal

pub offer_curves-requires-clause-offers : goal.offer_curves-requires-clause-offers
offer_curves-requires-clause-offers c = rw (c.assets.ensures.number, c.after.ensures)
    (offers_are c.args.ledger.now c.args.txs.now c.in_ok-body.body c.assets.ensures.kept c.requires.admissible
    c.in_ok-body.ensures)
