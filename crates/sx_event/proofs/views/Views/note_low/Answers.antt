use Rattle.std.proofs.Common.{◌≡◌, true, get_or, ap, ◌∙◌}
use Rattle.sx_event.specs.View.{spent}
use Rattle.sx_event.specs.Seated.{Seated}
use Rattle.sx_event.proofs.Agreeing.{agree_low}
use Rattle.sx_event.proofs.views.Views.note_low.Goals as goal

pub invariant_of-self : goal.invariant_of-self
invariant_of-self c =
    let views = c.self.inside.seats.views in
    let live : (get_or views c.args.view spent).live ≡ true =
    ap (λ (s : Seated). (get_or s.views c.args.view spent).live) c.self.view_is ∙ c.requires.live in
    rw c.note.ensures.views (agree_low views c.args.view c.args.purse c.args.value c.self.inside.lows c.put.new.self
    live
    c.put.ensures.count c.put.ensures.open c.put.ensures.seen c.self.invariant)
