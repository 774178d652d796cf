use Rattle.std.proofs.Common.{length, sym, ap, subst, ◌∙◌}
use Rattle.sx_event.specs.View.{View}
use Rattle.sx_shard.specs.Close.{HasEnded}
use Rattle.sx_shard.specs.Models.{IsOf, Seated}
use Rattle.sx_gather.proofs.Loops.{finish_at, finishes_more}
use Rattle.sx_gather.proofs.Seats.{view_is}
use Rattle.sx_gather.proofs.seal.finish.Goals as goal

pub finish-requires-clause-of : goal.finish-requires-clause-of
finish-requires-clause-of c =
    let left = c.pop.new.self.items in
    let shard = c.in-Some-Some.shard in
    let seat = c.in-Some-Some.seat in
    let at = finish_at c.args.shards.items c.args.seats.items c.loop-shard.shards.items left c.loop-shard.seats.items
    c.pop-in-loop-shard.new.self.items shard seat c.loop-shard.invariant c.in-Some-Some.ensures.items
    c.in-Some-Some.ensures'.items in
    subst (IsOf shard) (sym c.into_seat.ensures) (c.requires.seats.of (length left) shard seat at.0 at.1)

pub finish-requires-clause-from : goal.finish-requires-clause-from
finish-requires-clause-from c =
    let left = c.pop.new.self.items in
    let shard = c.in-Some-Some.shard in
    let seat = c.in-Some-Some.seat in
    let at = finish_at c.args.shards.items c.args.seats.items c.loop-shard.shards.items left c.loop-shard.seats.items
    c.pop-in-loop-shard.new.self.items shard seat c.loop-shard.invariant c.in-Some-Some.ensures.items
    c.in-Some-Some.ensures'.items in
    ap (λ (s : Seated). s.view.from) c.into_seat.ensures
    ∙ ap (λ (v : View). v.from) (sym (view_is c.args.seats.items (length left) seat at.1))
    ∙ (c.requires.all (length left) shard at.0).0

pub finish-requires-clause-end : goal.finish-requires-clause-end
finish-requires-clause-end c =
    let left = c.pop.new.self.items in
    let shard = c.in-Some-Some.shard in
    let seat = c.in-Some-Some.seat in
    let at = finish_at c.args.shards.items c.args.seats.items c.loop-shard.shards.items left c.loop-shard.seats.items
    c.pop-in-loop-shard.new.self.items shard seat c.loop-shard.invariant c.in-Some-Some.ensures.items
    c.in-Some-Some.ensures'.items in
    ap (λ (s : Seated). s.view.end) c.into_seat.ensures
    ∙ ap (λ (v : View). v.end) (sym (view_is c.args.seats.items (length left) seat at.1))
    ∙ (c.requires.all (length left) shard at.0).1

pub loop-shard-preserved : goal.loop-shard-preserved
loop-shard-preserved c =
    let left = c.pop.new.self.items in
    let shard = c.in-Some-Some.shard in
    let seat = c.in-Some-Some.seat in
    let at = finish_at c.args.shards.items c.args.seats.items c.loop-shard.shards.items left c.loop-shard.seats.items
    c.pop-in-loop-shard.new.self.items shard seat c.loop-shard.invariant c.in-Some-Some.ensures.items
    c.in-Some-Some.ensures'.items in
    let view = ap (λ (s : Seated). s.view) c.into_seat.ensures
    ∙ sym (view_is c.args.seats.items (length left) seat at.1) in
    finishes_more c.args.shards.items c.args.seats.items c.loop-shard.shards.items left c.loop-shard.seats.items
    c.pop-in-loop-shard.new.self.items shard seat c.loop-shard.invariant c.in-Some-Some.ensures.items
    c.in-Some-Some.ensures'.items (subst (HasEnded shard) view c.finish.ensures)
