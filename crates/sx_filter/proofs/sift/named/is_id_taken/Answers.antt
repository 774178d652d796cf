use Rattle.std.proofs.Common.{sym, ◌∙◌}
use Rattle.sx_filter.proofs.NamedAgain.{id_again, no_id}
use Rattle.sx_filter.proofs.sift.named.is_id_taken.Goals as goal
use Rattle.sx_ledger.specs.Body.{created}

pub returns-in-Some : goal.returns-in-Some
returns-in-Some c = λ txs is.
    c.is_again.ensures (created txs) is ∙ id_again txs c.args.tx.now c.in-Some.id (sym c.in-Some.ensures)

pub returns-in-None : goal.returns-in-None
returns-in-None c = λ txs is. no_id txs c.args.tx.now (sym c.in-None.ensures)
