use Rattle.std.proofs.Common.{◌∙◌, arith}
use Rattle.sha2.specs.Sha256.{sha256}
use Rattle.sx_commit.specs.Commitments.{node_bytes}
use Rattle.sx_commit.proofs.Levels.{node_there, room_below}
use Rattle.sx_commit.proofs.subtree.+digest_over.Goals as goal

pub digest_over-left-requires : goal.digest_over-left-requires
digest_over-left-requires t c =
    let some = c.if-level-eq0.false in
    let room = room_below c.args.level (omega (arith, some)) c.requires.level in (
      omega (arith, c.decreases, some),
      (omega (arith, c.requires.level), omega (arith, c.requires.place, room)),
    )

pub digest_over-right-requires : goal.digest_over-right-requires
digest_over-right-requires t c =
    let some = c.if-level-eq0.false in
    let room = room_below c.args.level (omega (arith, some)) c.requires.level in (
      omega (arith, c.decreases, some),
      (omega (arith, c.requires.level), omega (arith, c.requires.place, room)),
    )

pub returns : goal.returns
returns t c =
    let parts = c.args.parts.now in
    let some = c.if-level-eq0.false in
    c.node_digest.ensures.hash
    ∙ (λ i. sha256 (node_bytes (c.digest_over-left.ensures i) (c.digest_over-right.ensures i)))
    ∙ node_there parts c.args.level c.args.place (omega (arith, some))
