use Rattle.sx_filter.specs.Sifted.{in_lists}
use Rattle.sx_filter.proofs.KeptParts.{all_new}
use Rattle.sx_filter.proofs.keeping.drop_taken_where_any.Goals as goal
use Rattle.sx_ledger.specs.Body.{created}

pub returns-else-not-is_empty : goal.returns-else-not-is_empty
returns-else-not-is_empty g c = λ passed are.
    all_new passed (c.is_empty.ensures (created passed) are c.if-not-is_empty.false) (in_lists c.args.lists.now)
