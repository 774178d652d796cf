use Rattle.std.proofs.Common.{◌≡◌, ◌<◌, [], ◌∷◌, length, Some, refl, sym, ap, ◌∙◌, arith}
use Rattle.std.specs.Prelude.{slice_get}
use Rattle.std.proofs.lemmas.Option.{slice_get_read}
use Rattle.sx_event.specs.declared.marks.Claim.TheVariants.{Bit}
use Rattle.sx_event.specs.declared.marks.Note.TheVariants.{Set}
use Rattle.sx_event.specs.View.{with_claim, with_note}
use Rattle.sx_shard.specs.Models.{Seated}
use Rattle.sx_gather.proofs.Growing.{claimed, grow_claims, grow_notes, noted}
use Rattle.sx_gather.proofs.Steps.{on_err, on_ok}
use Rattle.sx_gather.proofs.gather.Gather.claim.Goals as goal

pub returns-clause-ok : goal.returns-clause-ok
returns-clause-ok c =
    let seats = c.args.seats.now in
    let at = c.args.at in
    let old = c.index-seats-k.result in
    let claim = Bit at.word c.args.bit in
    let lt : at.shard < length seats =
    omega (arith, c.requires.seats.one_each, c.requires.gathering.one_each, c.requires.there.shard) in
    let stands : slice_get seats at.shard ≡ Some old =
    slice_get_read seats (length seats) at.shard old refl lt c.index-seats-k.is in
    on_ok c.claim.result _ _
    (λ is. grow_claims seats at.shard old c.claim.new.seat (claim ∷ []) stands
    (is ∙ ap (λ (s : Seated). with_claim s.view claim) (c.at_shard.view_is ∙ sym c.index-seats-k.is)
    ∙ claimed old.view claim))
    c.claim.ensures.ok

pub returns-clause-err : goal.returns-clause-err
returns-clause-err c =
    let seats = c.args.seats.now in
    let at = c.args.at in
    let old = c.index-seats-k.result in
    let note = Set at.word c.args.bit in
    let lt : at.shard < length seats =
    omega (arith, c.requires.seats.one_each, c.requires.gathering.one_each, c.requires.there.shard) in
    let stands : slice_get seats at.shard ≡ Some old =
    slice_get_read seats (length seats) at.shard old refl lt c.index-seats-k.is in
    on_err c.claim.result _ _
    (λ is. grow_notes seats at.shard old c.claim.new.seat (note ∷ []) stands
    (is ∙ ap (λ (s : Seated). with_note s.view note) (c.at_shard.view_is ∙ sym c.index-seats-k.is)
    ∙ noted old.view note))
    c.claim.ensures.err
