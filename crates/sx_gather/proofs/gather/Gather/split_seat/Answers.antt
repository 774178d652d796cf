use Rattle.std.proofs.Common.{◌≡◌, ◌<◌, length, get_or, Some, refl, sym, ap, subst, ◌∙◌, arith}
use Rattle.std.specs.Prelude.{slice_get}
use Rattle.std.proofs.lemmas.Option.{same_Some, slice_get_read}
use Rattle.sx_event.specs.Step.{left_part}
use Rattle.sx_event.specs.View.{View}
use Rattle.sx_shard.specs.Models.{IsOf, Seated, Shown}
use Rattle.sx_gather.specs.Passes.{Gathering}
use Rattle.sx_gather.proofs.Seats.{seats_set, view_is, view_other, view_set}
use Rattle.sx_gather.proofs.gather.Gather.split_seat.Goals as goal

pub returns-clause-seats : goal.returns-clause-seats
returns-clause-seats c =
    let shards = c.args.self.now.shards in
    let shard = c.index.result.now in
    let lt : c.args.k < length shards = omega (arith, c.requires.seats.one_each, c.requires.there) in
    let stands : slice_get shards c.args.k ≡ Some shard =
    slice_get_read shards (length shards) c.args.k shard refl lt
    (c.index.ensures ∙ ap (λ (g : Gathering). get_or g.shards c.args.k shard) c.self.view_is) in
    seats_set shards c.args.seats.now c.args.k shard c.split.new.seat c.requires.seats stands c.split.ensures.of

pub returns-clause-left : goal.returns-clause-left
returns-clause-left c =
    let seats = c.args.seats.now in
    let old = c.index-seats-k.result in
    let stands : slice_get seats c.args.k ≡ Some old =
    slice_get_read seats (length seats) c.args.k old refl c.requires.there c.index-seats-k.is in
    view_set seats c.args.k c.split.new.seat c.requires.there ∙ c.split.ensures.left
    ∙ ap (λ (s : Seated). left_part s.view c.args.at) (c.at_shard.view_is ∙ sym c.index-seats-k.is)
    ∙ ap (λ (v : View). left_part v c.args.at) (sym (view_is seats c.args.k old stands))

pub returns-clause-others : goal.returns-clause-others
returns-clause-others c = λ other apart. view_other c.args.seats.now c.args.k other c.split.new.seat apart

pub returns-clause-of : goal.returns-clause-of
returns-clause-of c = λ one there.
    let shards = c.args.self.now.shards in
    let shard = c.index.result.now in
    let lt : c.args.k < length shards = omega (arith, c.requires.seats.one_each, c.requires.there) in
    let stands : slice_get shards c.args.k ≡ Some shard =
    slice_get_read shards (length shards) c.args.k shard refl lt
    (c.index.ensures ∙ ap (λ (g : Gathering). get_or g.shards c.args.k shard) c.self.view_is) in
    subst (IsOf one) (sym c.of.ensures)
    (subst (λ (s : Shown). IsOf s c.split.result) (same_Some shard one (sym stands ∙ there)) c.split.ensures.new_of)
