use Rattle.std.proofs.Common.{◌≡◌, true, get_or, ap, ◌∙◌}
use Rattle.sx_event.specs.View.{spent}
use Rattle.sx_event.specs.Seated.{Seated}
use Rattle.sx_event.proofs.Agreeing.{agree_note_set}
use Rattle.sx_event.proofs.views.Views.note_set.Goals as goal

pub invariant_of-self : goal.invariant_of-self
invariant_of-self c =
    let views = c.self.inside.seats.views in
    let live : (get_or views c.args.view spent).live ≡ true =
    ap (λ (s : Seated). (get_or s.views c.args.view spent).live) c.self.view_is ∙ c.requires in
    rw c.note.ensures.views (agree_note_set views c.args.view c.args.word c.args.bit c.self.inside.lows live
    c.self.invariant)
