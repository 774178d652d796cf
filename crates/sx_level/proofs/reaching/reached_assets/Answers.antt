use Rattle.std.proofs.Common.{below_more}
use Rattle.std.specs.Prelude.{◌↔◌, Contains, IsTrue}
use Rattle.sx_dual.specs.Cuts.{is_in}
use Rattle.sx_level.proofs.reaching.reached_assets.Goals as goal

pub loop-asset-preserved : goal.loop-asset-preserved
loop-asset-preserved c =
    let set = c.with_reached-set.result in
    record {
      within = c.with_reached-set.ensures.within;
      reached =
          below_more (λ a. IsTrue (is_in set a) ↔ Contains c.args.net.now.reached a) c.loop-asset.asset
          (λ a lt. rw (c.with_reached-set.ensures.others a lt) (c.loop-asset.invariant.reached a lt))
          c.with_reached-set.ensures.itself;
    }
