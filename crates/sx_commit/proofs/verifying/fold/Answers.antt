use Rattle.std.proofs.Common.{arith}
use Rattle.sx_commit.proofs.Folding.{folded_more, folded_none}
use Rattle.sx_commit.proofs.verifying.fold.Goals as goal

pub loop-k-init : goal.loop-k-init
loop-k-init c = folded_none c.args.place c.args.siblings.now c.args.leaf.now

pub loop-k-preserved : goal.loop-k-preserved
loop-k-preserved c =
    folded_more c.args.place c.args.siblings.now c.args.leaf.now c.loop-k.k c.loop-k.digest _ _
    (omega (arith, c.requires, c.loop-k.auto)) c.loop-k.invariant c.index-siblings-k.is c.join-digest.ensures
