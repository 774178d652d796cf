use Rattle.sx_clear.proofs.LedgersLeft.{can_execute, digest_of_left, is_tally, still_below_last}
use Rattle.sx_clear.proofs.leaving.digest_after.Goals as goal

pub apply_accounts-requires-clause-body : goal.apply_accounts-requires-clause-body
apply_accounts-requires-clause-body c =
    is_tally c.args.ledger c.args.body c.args.prices.now c.args.rounding.now c.args.fills.now
    c.requires.body

pub apply_accounts-requires-clause-offers : goal.apply_accounts-requires-clause-offers
apply_accounts-requires-clause-offers c = c.requires.body.body.offers

pub execute-requires-clause-below_last : goal.execute-requires-clause-below_last
execute-requires-clause-below_last c =
    still_below_last c.args.ledger c.args.body c.args.prices.now c.args.rounding.now c.args.fills.now
    c.in_ok-with_body.with_body c.in_ok-with_body.ensures c.requires.body c.requires.below_last

pub execute-requires-clause-fills : goal.execute-requires-clause-fills
execute-requires-clause-fills c =
    can_execute c.args.ledger c.args.body c.args.prices.now c.args.rounding.now c.args.fills.now
    c.in_ok-with_body.with_body c.in_ok-with_body.ensures c.requires.body

pub returns-clause-hash : goal.returns-clause-hash
returns-clause-hash c =
    digest_of_left c.args.ledger c.args.body c.args.prices.now c.args.rounding.now c.args.fills.now
    c.in_ok-with_body.with_body c.in_ok-with_body.ensures c.in_ok-left.left c.ledger_digest.result
    c.in_ok-left.ensures c.ledger_digest.ensures.hash
