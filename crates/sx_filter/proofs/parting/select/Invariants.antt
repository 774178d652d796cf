use Rattle.std.proofs.Common.{◌≡◌, ℕ, ◌<◌, get_or, take}
use Rattle.std.specs.Prelude.{vec_len}
use Rattle.sx_filter.specs.Bands.{in_band}
use Rattle.sx_filter.specs.ByRange.{pieces}
use Rattle.sx_filter.specs.Sifted.{TxVec}
use Rattle.sx_filter.proofs.parting.select.Given as goal

abbrev pub invariant-loop-part : goal.invariant-loop-part
invariant-loop-part l = record {
  one_each : vec_len l.lists ≡ l.bands.count;
  each : (band : ℕ) (d : TxVec) → band < l.bands.count → (get_or l.lists.items band d).items
      ≡ in_band l.bands band (pieces l.range (take l.part-index l.parts));
}
