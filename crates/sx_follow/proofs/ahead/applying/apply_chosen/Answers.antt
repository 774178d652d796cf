use Rattle.std.proofs.Common.{refl}
use Rattle.sx_block.specs.Validity.{IsApplicable}
use Rattle.sx_follow.specs.declared.ahead.batch.Claim.{Claim}
use Rattle.sx_follow.proofs.AheadSteps.{applied_next}
use Rattle.sx_follow.proofs.ahead.applying.apply_chosen.Goals as goal

pub loop-index-preserved : goal.loop-index-preserved
loop-index-preserved g c =
    let block = c.index-blocks-place.result in
    let before = c.loop-index.after in
    let claim : Claim = record { state = c.in_ok-state.field-0; digest = block.header.after } in
    let applicable : IsApplicable before block = rw c.in-Some.is at c.in_ok-effects.ensures.applicable in
    rw c.in_ok-push.ensures.items
    (applied_next c.args.ledger.now c.args.digest.now c.args.blocks.now c.loop-index.claims.items before
    c.loop-index.named c.args.places.now c.loop-index.index block claim c.in_ok-after-2.after c.loop-index-test.true
    c.loop-index.invariant c.index-blocks-place.is applicable c.in_ok-after-2.ensures c.in_ok-state.ensures.state refl)
