-- What candidates cancel, in the order of accounts.
use Rattle.std.specs.Prelude.{List, map}
use Rattle.sx_filter.specs.declared.sift.cancellation.Cancellation.{Cancellation}
use Rattle.sx_ledger.specs.declared.key.Key.{Key}
use Rattle.sx_ledger.specs.Body.{cancelled}
use Rattle.sx_tx.specs.declared.tx.Tx.{Tx}

abbrev pub cancellation_of : Key → Cancellation
cancellation_of key = record { account = key.account; key = key }

abbrev pub cancellations : List Tx → List Cancellation
cancellations txs = map cancellation_of (cancelled txs)
