use Rattle.std.proofs.Common.{ℕ, ◌<◌, ◌^◌}
use Rattle.std.specs.Prelude.{◌↔◌, Contains, IsTrue}
use Rattle.sx_dual.specs.Cuts.{is_in}
use Rattle.sx_level.proofs.reaching.reached_assets.Given as goal

abbrev pub invariant-loop-asset : goal.invariant-loop-asset
invariant-loop-asset l = record {
  within : l.set < 2 ^ l.asset;
  reached : (a : ℕ) → a < l.asset → IsTrue (is_in l.set a) ↔ Contains l.net.reached a;
}
