use Rattle.std.proofs.Common.{ℕ, ◌<◌, ◌^◌}
use Rattle.std.specs.Prelude.{◌↔◌, IsTrue, slice_index}
use Rattle.sx_dual.specs.Cuts.{is_in}
use Rattle.sx_level.proofs.separating.assets_above.Given as goal

abbrev pub invariant-loop-asset : goal.invariant-loop-asset
invariant-loop-asset l = record {
  within : l.set < 2 ^ l.asset;
  above : (a : ℕ) → a < l.asset → IsTrue (is_in l.set a) ↔ (l.level < slice_index l.heights a);
}
