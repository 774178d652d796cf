use Rattle.std.proofs.Common.{◌≡◌, List, sym, subst, ap, ◌∙◌, arith}
use Rattle.std.specs.Vec.{with_items}
use Rattle.std.proofs.lemmas.List.{with_items_is}
use Rattle.sx_shard.specs.Models.{Seated}
use Rattle.sx_gather.specs.contracts.pass.Pass.{the_view}
use Rattle.sx_gather.specs.Passes.{IsPassOf, Passing}
use Rattle.sx_gather.specs.Split.{AreJoined}
use Rattle.sx_gather.proofs.Joining.{joined_as}
use Rattle.sx_gather.proofs.gather.Gather.join.Goals as goal

pub returns-clause-of : goal.returns-clause-of
returns-clause-of c =
    let g = c.args.self.now in
    let pass = the_view c.pass.inside in
    let other = the_view c.other.inside in
    let seats = c.join_seats.new.seats in
    let outcomes = c.append.new.self in
    let is : IsPassOf g pass = subst (IsPassOf g) (sym c.pass.view_is) c.requires.of in
    let too : IsPassOf g other = subst (IsPassOf g) (sym c.other.view_is) c.requires.other_of in
    let done : pass.next ≡ pass.end =
    subst (λ (p : Passing). p.next ≡ p.end) (sym c.pass.view_is) c.requires.done in
    let meets : other.from ≡ pass.end =
    ap (λ (p : Passing). p.from) c.other.view_is ∙ c.requires.meets
    ∙ ap (λ (p : Passing). p.end) (sym c.pass.view_is) in
    joined_as g pass other outcomes.spare seats
    (with_items c.pass.inside.seats seats).items outcomes.outcomes is too done meets c.join_seats.ensures.seats
    (subst (λ (before : List Seated). AreJoined before other.seats seats) c.deref_mut.ensures.value
    c.join_seats.ensures.joined)
    (sym (with_items_is c.pass.inside.seats seats (omega (arith, c.join_seats.auto.seats, c.deref_mut.ensures.len))))
    (sym c.append.ensures.outcomes)
