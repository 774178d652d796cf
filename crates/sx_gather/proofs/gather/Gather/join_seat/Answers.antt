use Rattle.std.proofs.Common.{◌≡◌, length, Some, refl, sym, ap, ap₂, ◌∙◌}
use Rattle.std.specs.Prelude.{slice_get}
use Rattle.std.proofs.lemmas.Option.{slice_get_read}
use Rattle.sx_event.specs.Step.{joined}
use Rattle.sx_shard.specs.Models.{Seated}
use Rattle.sx_gather.proofs.Seats.{view_is, view_other, view_set}
use Rattle.sx_gather.proofs.gather.Gather.join_seat.Goals as goal

pub returns-clause-joined : goal.returns-clause-joined
returns-clause-joined c =
    let seats = c.args.seats.now in
    let old = c.index-seats-k.result in
    let stands : slice_get seats c.args.k ≡ Some old =
    slice_get_read seats (length seats) c.args.k old refl c.requires.there c.index-seats-k.is in
    view_set seats c.args.k c.join.new.seat c.requires.there ∙ c.join.ensures.view
    ∙ ap₂ joined
    (ap (λ (s : Seated). s.view) (c.at_shard.view_is ∙ sym c.index-seats-k.is)
    ∙ sym (view_is seats c.args.k old stands))
    (ap (λ (s : Seated). s.view) c.into_seat.ensures)

pub returns-clause-others : goal.returns-clause-others
returns-clause-others c = λ other apart. view_other c.args.seats.now c.args.k other c.join.new.seat apart
