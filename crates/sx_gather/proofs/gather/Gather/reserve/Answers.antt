use Rattle.std.proofs.Common.{◌≡◌, ◌<◌, length, Some, refl, sym, subst, ◌∙◌, arith}
use Rattle.std.specs.Prelude.{slice_get}
use Rattle.std.proofs.lemmas.Option.{slice_get_read}
use Rattle.sx_shard.specs.Models.{Seated}
use Rattle.sx_shard.specs.Reserve.{Refuses, Reserves}
use Rattle.sx_gather.proofs.Steps.{if_err, on_ok, reserved_is, short_is}
use Rattle.sx_gather.proofs.gather.Gather.reserve.Goals as goal

pub returns-clause-ok : goal.returns-clause-ok
returns-clause-ok c =
    let seats = c.args.seats.now in
    let at = c.args.purse in
    let old = c.index-seats-k.result in
    let lt : at.shard < length seats =
    omega (arith, c.requires.seats.one_each, c.requires.gathering.one_each, c.requires.there.shard) in
    let stands : slice_get seats at.shard ≡ Some old =
    slice_get_read seats (length seats) at.shard old refl lt c.index-seats-k.is in
    on_ok c.reserve.result _ _
    (λ is. reserved_is seats old c.reserve.new.seat at c.args.need stands
    (subst (λ (s : Seated). Reserves s.view at.word c.args.need c.reserve.new.seat.view)
    (c.at_shard.view_is ∙ sym c.index-seats-k.is) is))
    c.reserve.ensures.ok

pub returns-clause-err : goal.returns-clause-err
returns-clause-err c =
    let seats = c.args.seats.now in
    let at = c.args.purse in
    let old = c.index-seats-k.result in
    let lt : at.shard < length seats =
    omega (arith, c.requires.seats.one_each, c.requires.gathering.one_each, c.requires.there.shard) in
    let stands : slice_get seats at.shard ≡ Some old =
    slice_get_read seats (length seats) at.shard old refl lt c.index-seats-k.is in
    if_err c.reserve.result _ _
    (λ refusal is. short_is seats old c.reserve.new.seat at refusal.seen c.args.need stands
    (subst (λ (s : Seated). Refuses s.view at.word c.args.need refusal.seen c.reserve.new.seat.view)
    (c.at_shard.view_is ∙ sym c.index-seats-k.is) is))
    c.reserve.ensures.err
