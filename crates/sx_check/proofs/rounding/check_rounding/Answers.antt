use Rattle.std.proofs.Common.{◌∙◌, arith}
use Rattle.sx_check.proofs.OfferLaws.{are_fills, can_trade}
use Rattle.sx_check.proofs.rounding.check_rounding.Goals as goal

pub fills_of-requires-clause-tradable : goal.fills_of-requires-clause-tradable
fills_of-requires-clause-tradable c =
    can_trade c.args.ledger.now c.args.block.now c.assets-assets.ensures.kept c.requires.form c.args.offers.now
    (λ r lt. c.requires.cut r (omega arith)) c.requires.offers

pub rounding_of-requires : goal.rounding_of-requires
rounding_of-requires c = record {
  fills = rw c.assets-assets.ensures.number
      (are_fills c.args.ledger.now c.args.block.now c.assets-assets.ensures.kept c.requires.form c.args.offers.now
      c.items.result.now (λ r lt. c.requires.cut r (omega arith)) c.requires.offers
      (c.items.ensures ∙ c.in_ok-fills.ensures));
}
