use Rattle.std.proofs.Common.{◌∙◌, subst, sym}
use Rattle.sx_block.specs.Digest.{IsDigest}
use Rattle.sx_commit.proofs.Digests.{digest_is}
use Rattle.sx_commit.proofs.Levels.{one_up}
use Rattle.sx_commit.proofs.committing.commit.Goals as goal

pub loop-k-preserved : goal.loop-k-preserved
loop-k-preserved g c =
    one_up c.args.ledger.now c.loop-k.k c.loop-k.level c.in_ok-level-2.level c.loop-k.invariant c.in_ok-level-2.ensures

pub returns-clause-digest : goal.returns-clause-digest
returns-clause-digest g c =
    subst IsDigest (sym (c.at.ensures ∙ c.loop-k.invariant 0)) (digest_is c.args.ledger.now c.loop-k.k 0)
