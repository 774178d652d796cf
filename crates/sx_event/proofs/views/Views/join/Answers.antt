use Rattle.std.proofs.Common.{◌≡◌, true, get_or, ap, ◌∙◌}
use Rattle.sx_event.specs.View.{spent}
use Rattle.sx_event.specs.Seated.{Seated}
use Rattle.sx_event.proofs.Agreeing.{agree_join}
use Rattle.sx_event.proofs.views.Views.join.Goals as goal

pub invariant_of-self : goal.invariant_of-self
invariant_of-self c =
    let views = c.self.inside.seats.views in
    let live : (get_or views c.args.view spent).live ≡ true =
    ap (λ (s : Seated). (get_or s.views c.args.view spent).live) c.self.view_is ∙ c.requires.live in
    let other_live : (get_or views c.args.other spent).live ≡ true =
    ap (λ (s : Seated). (get_or s.views c.args.other spent).live) c.self.view_is ∙ c.requires.other_live in
    rw c.join.ensures.views (agree_join views c.args.view c.args.other c.self.inside.lows c.join-2.new.self live
    other_live c.requires.apart
    c.join-2.ensures.count c.join-2.ensures.open c.join-2.ensures.seen c.self.invariant)
