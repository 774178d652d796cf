use Rattle.std.proofs.Common.{◌∙◌}
use Rattle.sx_commit.proofs.Levels.{nothing_first, nothing_one_up}
use Rattle.sx_commit.proofs.level.empty_lowest.Goals as goal

pub loop-init : goal.loop-init
loop-init c = c.empty_digest-empty.ensures.hash ∙ nothing_first

pub loop-preserved : goal.loop-preserved
loop-preserved c =
    c.node_digest-empty.ensures.hash ∙ nothing_one_up c.loop.counter c.loop.empty c.loop.invariant
