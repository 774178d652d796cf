use Rattle.std.proofs.Common.{◌≡◌, take}
use Rattle.sx_filter.specs.Cancellations.{cancellations}
use Rattle.sx_filter.proofs.sift.named.names_of.Given as goal
use Rattle.sx_ledger.specs.Body.{created}

abbrev pub invariant-loop-tx : goal.invariant-loop-tx
invariant-loop-tx l = record {
  offers : l.offers.items ≡ cancellations (take l.tx-index l.txs);
  ids : l.ids.items ≡ created (take l.tx-index l.txs);
}
