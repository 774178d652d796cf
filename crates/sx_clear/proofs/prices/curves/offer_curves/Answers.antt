use Rattle.std.proofs.Common.{sym, subst}
use Rattle.sx_clear.proofs.OfferLaws.{quotes_are}
use Rattle.sx_clear.proofs.prices.curves.offer_curves.Goals as goal
use Rattle.sx_curve.specs.Curves.{AreQuotes}

pub build-requires : goal.build-requires
build-requires c =
    subst (AreQuotes c.args.assets) (sym c.in_ok-quotes.ensures)
    (quotes_are c.args.assets c.args.offers.now c.requires.assets c.requires.offers)
