use Rattle.std.proofs.Common.{ap, ◌∙◌}
use Rattle.sx_commit.specs.Commitments.{digest_at, sibling_at}
use Rattle.sx_commit.proofs.Levels.{one_up}
use Rattle.sx_commit.proofs.Listing.{pushed}
use Rattle.sx_commit.proofs.committing.siblings.Goals as goal

pub loop-k-init : goal.loop-k-init
loop-k-init g c = (
  c.in_ok-level.ensures,
  c.in_ok-siblings.ensures,
)

pub loop-k-preserved : goal.loop-k-preserved
loop-k-preserved g c = (
  one_up c.args.ledger.now c.loop-k.k c.loop-k.level c.in_ok-level-2.level c.loop-k.invariant.0
      c.in_ok-level-2.ensures,
  c.in_ok-push.ensures.items
      ∙ pushed (sibling_at c.args.ledger.now c.args.place) c.loop-k.siblings.items c.loop-k.k c.at-sibling.result
      (c.at-sibling.ensures ∙ c.loop-k.invariant.0 c.beside.result
      ∙ ap (digest_at c.args.ledger.now c.loop-k.k) c.beside.ensures)
      c.loop-k.invariant.1,
)
