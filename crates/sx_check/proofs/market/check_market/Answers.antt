use Rattle.sx_check.proofs.OfferLaws.{bounds_are, offers_of_header}
use Rattle.sx_check.proofs.market.check_market.Goals as goal

pub bounds_of-requires-clause-offers : goal.bounds_of-requires-clause-offers
bounds_of-requires-clause-offers c = rw c.requires.offers
    (offers_of_header c.args.ledger.now c.args.block.now c.requires.kept c.requires.form c.requires.body)

pub check_dropped-requires-clause-bounds : goal.check_dropped-requires-clause-bounds
check_dropped-requires-clause-bounds c =
    bounds_are c.args.ledger.now c.args.block.now c.args.offers.now c.in_ok-bounds.bounds c.requires.body
    c.requires.offers c.in_ok-bounds.ensures

pub check_kept-requires-clause-bounds : goal.check_kept-requires-clause-bounds
check_kept-requires-clause-bounds c =
    bounds_are c.args.ledger.now c.args.block.now c.args.offers.now c.in_ok-bounds.bounds c.requires.body
    c.requires.offers c.in_ok-bounds.ensures
