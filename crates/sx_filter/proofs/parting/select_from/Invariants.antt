use Rattle.std.proofs.Common.{◌≡◌, ℕ, ◌<◌, ◌++◌, get_or, length, take}
use Rattle.sx_filter.specs.Bands.{in_band}
use Rattle.sx_filter.specs.Sifted.{TxVec}
use Rattle.sx_filter.proofs.parting.select_from.Given as goal

abbrev pub invariant-loop-tx : goal.invariant-loop-tx
invariant-loop-tx l = record {
  one_each : length l.lists ≡ l.bands.count;
  each : (band : ℕ) (d : TxVec) → band < l.bands.count → (get_or l.lists band d).items
      ≡ (get_or l.fn.lists band d).items ++ in_band l.bands band (take l.tx-index l.list);
}
