use Rattle.std.proofs.Common.{◌∙◌}
use Rattle.sx_check.proofs.OfferLaws.{is_body}
use Rattle.sx_check.proofs.judging.judge_trades.Goals as goal

pub check_market-requires-clause-offers : goal.check_market-requires-clause-offers
check_market-requires-clause-offers c =
    c.after-after.ensures
    ∙ c.requires.survey.offers c.args.block.now.txs
    (is_body c.args.ledger.now c.args.block.now c.requires.kept c.requires.form c.requires.body) c.requires.survey.tally

pub check_rounding-requires-clause-offers : goal.check_rounding-requires-clause-offers
check_rounding-requires-clause-offers c =
    c.after-after.ensures
    ∙ c.requires.survey.offers c.args.block.now.txs
    (is_body c.args.ledger.now c.args.block.now c.requires.kept c.requires.form c.requires.body) c.requires.survey.tally
