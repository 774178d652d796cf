use Rattle.sx_clear.proofs.LedgersLeft.{can_execute, digest_of_left, is_tally, still_below_last}
use Rattle.sx_clear.proofs.leaving.par_digest_after.Goals as goal

pub par_apply_accounts-requires-clause-body : goal.par_apply_accounts-requires-clause-body
par_apply_accounts-requires-clause-body g c = λ κs out.
    is_tally c.args.ledger c.args.body c.args.prices.now c.args.rounding.now c.args.fills.now
    c.requires.body

pub par_apply_accounts-requires-clause-offers : goal.par_apply_accounts-requires-clause-offers
par_apply_accounts-requires-clause-offers g c = λ κs out. c.requires.body.body.offers

pub par_execute-requires-clause-below_last : goal.par_execute-requires-clause-below_last
par_execute-requires-clause-below_last g c = λ κs out.
    still_below_last c.args.ledger c.args.body c.args.prices.now c.args.rounding.now c.args.fills.now
    c.in_ok-with_body.with_body c.in_ok-with_body.ensures.after c.requires.body c.requires.below_last

pub par_execute-requires-clause-fills : goal.par_execute-requires-clause-fills
par_execute-requires-clause-fills g c = λ κs out.
    can_execute c.args.ledger c.args.body c.args.prices.now c.args.rounding.now c.args.fills.now
    c.in_ok-with_body.with_body c.in_ok-with_body.ensures.after c.requires.body

pub returns-clause-hash : goal.returns-clause-hash
returns-clause-hash g c =
    digest_of_left c.args.ledger c.args.body c.args.prices.now c.args.rounding.now c.args.fills.now
    c.in_ok-with_body.with_body c.in_ok-with_body.ensures.after c.in_ok-left.left c.par_ledger_digest.result
    c.in_ok-left.ensures c.par_ledger_digest.ensures.hash
