use Rattle.std.proofs.Common.{◌≡◌, length, get_or, set, ap, sym, ◌∙◌, arith}
use Rattle.std.proofs.lemmas.List.{set_comm, get_or-set_other, get_or_read, length-set}
use Rattle.sx_event.specs.View.{spent}
use Rattle.sx_event.specs.Step.{joined}
use Rattle.sx_event.specs.Seated.{Seated}
use Rattle.sx_event.proofs.seats.Seats.join.Goals as goal

pub returns-clause-views : goal.returns-clause-views
returns-clause-views c =
    let seats = c.self.inside.seats.items in
    let left = set seats c.args.other c.replace-next.new.dest in
    let as_many = ap (λ (s : Seated). length s.views) c.self.view_is in
    let next : c.replace-next.result ≡ get_or seats c.args.other spent =
    c.replace-next.ensures.value ∙ get_or_read seats c.args.other c.index_mut.result.now
    (omega (arith, as_many, c.requires.other_known)) c.index_mut.ensures.value spent in
    let seat : c.index_mut-2.result.now ≡ get_or seats c.args.view spent =
    get_or_read left c.args.view c.index_mut-2.result.now
    (omega (arith, as_many, c.requires.known, length-set seats c.args.other c.replace-next.new.dest))
    c.index_mut-2.ensures.value spent ∙ get_or-set_other seats c.args.other c.args.view c.replace-next.new.dest spent
    (λ same. c.requires.apart (sym same)) in
    rw (
      ← c.self.view_is,
      c.join.ensures,
      next,
      seat,
      c.replace-next.ensures.after,
      c.spent.ensures,
    )
    (set_comm seats c.args.other c.args.view spent
    (joined (get_or seats c.args.view spent) (get_or seats c.args.other spent)) c.requires.apart)
