use Rattle.std.proofs.Common.{◌∙◌, ◌≤◌, ◌^◌, ◌/◌, ap, arith, sym}
use Rattle.sx_commit.specs.Commitments.{digest_at, sibling_at}
use Rattle.sx_commit.proofs.Levels.{beside_near, room_low, way_below}
use Rattle.sx_commit.proofs.Listing.{listed_none, pushed}
use Rattle.sx_commit.proofs.committing.first_siblings.Goals as goal
use Rattle.sx_ledger.specs.declared.parts.Parts.{Parts}

pub loop-k-init : goal.loop-k-init
loop-k-init c = c.in_ok-siblings.ensures.items ∙ sym (listed_none (sibling_at c.args.ledger.now c.args.place))

pub digest_over-requires-clause-place : goal.digest_over-requires-clause-place
digest_over-requires-clause-place c =
    let k = c.loop-k.k in
    let few : k ≤ 6 = omega (arith, c.loop-k-test.true) in
    let way = c.args.place / 2 ^ k in
    let below : way ≤ c.args.place = way_below c.args.place k in
    omega (arith, c.requires, below, c.beside.ensures, beside_near way, room_low k few)

pub loop-k-preserved : goal.loop-k-preserved
loop-k-preserved c =
    c.in_ok-push.ensures.items
    ∙ pushed (sibling_at c.args.ledger.now c.args.place) c.loop-k.siblings.items c.loop-k.k c.digest_over.result
    (c.digest_over.ensures
    ∙ ap (λ (parts : Parts). digest_at parts c.loop-k.k c.beside.result) c.parts-parts.ensures.parts
    ∙ ap (digest_at c.args.ledger.now c.loop-k.k) c.beside.ensures)
    c.loop-k.invariant
