use Rattle.std.proofs.Common.{arith}
use Rattle.sx_ledger.proofs.Lookup.{offer_known, offer_unknown}
use Rattle.sx_ledger.proofs.ledger.Ledger.check_cancellation.Goals as goal

pub returns-in-Some-clause-tells : goal.returns-in-Some-clause-tells
returns-in-Some-clause-tells c =
    grind (arith, offer_known c.args.self.now.offers c.in-Some.place c.args.key.now c.in-Some.ensures.found)

pub returns-in-None-clause-tells : goal.returns-in-None-clause-tells
returns-in-None-clause-tells c =
    grind (arith, offer_unknown c.args.self.now.offers c.args.key.now c.in-None.ensures.absent)
