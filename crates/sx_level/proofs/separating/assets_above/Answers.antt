use Rattle.std.proofs.Common.{◌<◌, below_more}
use Rattle.std.specs.Prelude.{◌↔◌, IsTrue, slice_index}
use Rattle.sx_dual.specs.Cuts.{is_in}
use Rattle.sx_level.proofs.separating.assets_above.Goals as goal

pub loop-asset-preserved : goal.loop-asset-preserved
loop-asset-preserved c =
    let set = c.with_above-set.result in
    record {
      within = c.with_above-set.ensures.within;
      above =
          below_more (λ a. IsTrue (is_in set a) ↔ (c.args.level < slice_index c.args.heights.now a)) c.loop-asset.asset
          (λ a lt. rw (c.with_above-set.ensures.others a lt) (c.loop-asset.invariant.above a lt))
          c.with_above-set.ensures.itself;
    }
