use Rattle.std.proofs.Common.{below_more}
use Rattle.sx_dual.proofs.fitting.first_slack.Goals as goal

pub loop-number-preserved : goal.loop-number-preserved
loop-number-preserved c = below_more _ _ c.loop-number.invariant
    (rw c.asset_of-sell.ensures at c.in_default.ensures.none)
