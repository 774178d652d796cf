use Rattle.std.proofs.Common.{ap, ◌∙◌, length}
use Rattle.sx_clear.proofs.OfferLaws.{offers_at, offers_is}
use Rattle.sx_clear.proofs.prices.opening.open_at.Goals as goal

pub bounds_of-requires-clause-offers : goal.bounds_of-requires-clause-offers
bounds_of-requires-clause-offers c =
    let parts = c.args.ledger.now in
    let body = c.in_ok-body.body in
    let found = c.in_ok-body.ensures in
    offers_at parts c.args.txs.now c.in_ok-prices.prices c.after.result.now c.height-height.ensures.kept
    found.tally.in_range c.requires.admissible (ap length c.in_ok-prices.ensures ∙ c.requires.assets)
    (c.after.ensures ∙ offers_is parts c.args.txs.now body c.requires.admissible found)
