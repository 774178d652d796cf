use Rattle.std.proofs.Common.{◌≡◌, length}
use Rattle.sx_filter.specs.Sifted.{IsSifted, TxVec}
use Rattle.sx_filter.specs.declared.sift.sifting.Sifted.{Sifted}
use Rattle.sx_filter.proofs.Pairs.{ArePairs}
use Rattle.sx_filter.proofs.joining.each_sifted.Given as goal

abbrev pub invariant-loop-txs : goal.invariant-loop-txs
invariant-loop-txs l = record {
  one_each : length l.all.items ≡ length l.yielded;
  each : ArePairs (λ (txs : TxVec) (one : Sifted). IsSifted l.ledger txs.items one) l.yielded l.all.items;
}
