use Rattle.std.proofs.Common.{List, ap, ◌∙◌}
use Rattle.sx_multi.specs.Quotes.{quotes_of}
use Rattle.sx_clear.proofs.OfferLaws.{offers_are, offers_is}
use Rattle.sx_clear.proofs.prices.opening.open.Goals as goal
use Rattle.sx_ledger.specs.declared.offer.Offer.{Offer}
use Rattle.sx_multi.specs.Posted.{posted}

pub posted-requires-clause-offers : goal.posted-requires-clause-offers
posted-requires-clause-offers g c κs within =
    let parts = c.args.ledger.now in
    rw c.after.ensures
    (offers_are parts c.args.txs.now c.in_ok-body.body c.assets-assets.ensures.kept c.requires.admissible
    c.in_ok-body.ensures)

pub returns-clause-prices : goal.returns-clause-prices
returns-clause-prices g c =
    let by = c.args.by in
    let parts = c.args.ledger.now in
    ◌∙◌ {b = posted (quotes_of c.after.result.now) parts.prices by.mu by.rounds by.searches}
    c.in_ok-prices.ensures.prices
    (ap (λ (os : List Offer). posted (quotes_of os) parts.prices by.mu by.rounds by.searches)
    (c.after.ensures ∙ offers_is parts c.args.txs.now c.in_ok-body.body c.requires.admissible c.in_ok-body.ensures))
