use Rattle.std.proofs.Common.{◌∙◌, arith}
use Rattle.sx_net.proofs.Sounding.{IsSound-push}
use Rattle.sx_net.proofs.net.Net.arc.Goals as goal

pub invariant_of-self : goal.invariant_of-self
invariant_of-self c =
    let listed = rw (c.enter-2.ensures.arcs, c.enter.ensures.arcs) at c.enter-2.ensures.listed in
    let tail = rw (← c.self.view_is) at c.requires.tail in
    let head = rw (← c.self.view_is) at c.requires.head in
    let spare = rw (← c.self.view_is) at c.requires.spare in
    rw (c.enter-2.ensures.arcs, c.enter.ensures.arcs)
    (IsSound-push _ _ c.self.invariant.sound c.args.tail c.args.head c.args.room tail head c.ranges.room.fits
    c.self.inside.leaving _ _ _ _ _ _ _ _ _ _ c.self.invariant spare (c.enter-2.ensures.lists ∙ c.enter.ensures.lists)
    (omega (arith, c.enter-2.ensures.spare, c.enter.ensures.spare))
    (c.enter-2.ensures.link_capacity ∙ c.enter.ensures.link_capacity)
    (c.enter-2.ensures.capacity ∙ c.enter.ensures.capacity)
    listed)
