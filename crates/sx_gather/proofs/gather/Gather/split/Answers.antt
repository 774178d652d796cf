use Rattle.std.proofs.Common.{◌<◌, ◌≤◌, List, length, sym, subst, arith}
use Rattle.std.specs.Vec.{with_items}
use Rattle.std.proofs.lemmas.List.{with_items_is}
use Rattle.sx_shard.specs.Models.{Seated}
use Rattle.sx_gather.specs.contracts.pass.Pass.{the_view}
use Rattle.sx_gather.specs.Passes.{IsPassOf, Passing}
use Rattle.sx_gather.specs.Split.{SplitLeft, SplitRight}
use Rattle.sx_gather.proofs.Joining.{left_as, right_as}
use Rattle.sx_gather.proofs.gather.Gather.split.Goals as goal

pub returns-clause-of : goal.returns-clause-of
returns-clause-of c =
    let g = c.args.self.now in
    let at = c.args.at in
    let pass = the_view c.pass.inside in
    let seats = c.split_seats-seats.new.seats in
    let is : IsPassOf g pass = subst (IsPassOf g) (sym c.pass.view_is) c.requires.of in
    let next : pass.next ≤ at = subst (λ (p : Passing). p.next ≤ at) (sym c.pass.view_is) c.requires.next in
    let end : at < pass.end = subst (λ (p : Passing). at < p.end) (sym c.pass.view_is) c.requires.end in
    left_as g pass at seats (with_items c.pass.inside.seats seats).items is next (omega (arith, end))
    c.split_seats-seats.ensures.seats
    (subst (λ (before : List Seated). SplitLeft (length g.shards) at before seats) c.deref_mut.ensures.value
    c.split_seats-seats.ensures.left)
    (sym (with_items_is c.pass.inside.seats seats
    (omega (arith, c.split_seats-seats.auto.seats, c.deref_mut.ensures.len))))

pub returns-clause-new_of : goal.returns-clause-new_of
returns-clause-new_of c =
    let g = c.args.self.now in
    let at = c.args.at in
    let pass = the_view c.pass.inside in
    let seats = c.split_seats-seats.result.items in
    let outcomes = c.in_ok-outcomes.outcomes in
    let is : IsPassOf g pass = subst (IsPassOf g) (sym c.pass.view_is) c.requires.of in
    let end : at < pass.end = subst (λ (p : Passing). at < p.end) (sym c.pass.view_is) c.requires.end in
    right_as g pass at outcomes.spare seats outcomes.outcomes is (omega (arith, end))
    c.split_seats-seats.ensures.new_seats
    (subst (λ (before : List Seated). SplitRight (length g.shards) at before seats) c.deref_mut.ensures.value
    c.split_seats-seats.ensures.right)
    c.in_ok-outcomes.ensures.outcomes
