use Rattle.std.proofs.Common.{◌≡◌, length, arith}
use Rattle.sx_net.proofs.Indexing.{has_room, IsIndexed-push}
use Rattle.sx_net.proofs.tree.Tree.visit.Goals as goal

pub push_reserved-requires : goal.push_reserved-requires
push_reserved-requires c =
    let more = has_room _ _ _ c.self.invariant c.args.visit.node (rw (← c.self.view_is) at c.requires.within)
    (rw (← c.self.view_is) at c.requires.fresh) in
    omega (arith, more, c.self.invariant.room)

pub invariant_of-self : goal.invariant_of-self
invariant_of-self c =
    let pushed = IsIndexed-push _ _ _ c.self.invariant c.args.visit (rw (← c.self.view_is) at c.requires.within)
    (rw (← c.self.view_is) at c.requires.fresh) in
    let place : c.len-place.result ≡ length c.self.inside.visits.items = omega arith in
    rw (c.push_reserved.ensures.items, c.push_reserved.ensures.capacity, place) pushed
