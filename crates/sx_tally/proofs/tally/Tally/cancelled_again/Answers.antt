use Rattle.std.proofs.Common.{refl}
use Rattle.sx_ledger.specs.Repeats.{cancels}
use Rattle.sx_tally.proofs.Repeated.{distinct_from_none, when_none}
use Rattle.sx_tally.proofs.tally.Tally.cancelled_again.Goals as goal
use Rattle.sx_ledger.specs.Order.{same_key}
use Rattle.sx_ledger.proofs.KeyOrder.{same_key_from, same_key_is}

pub returns-clause-none : goal.returns-clause-none
returns-clause-none c = λ parts txs tally.
    when_none c.args.self.now.cancellations.again
    (distinct_from_none cancels same_key same_key_is (λ key. same_key_from key key refl) txs) tally.cancelled.again.none
