use Rattle.std.proofs.Common.{ℕ, List, get_or, subst, ap, ◌∙◌, arith}
use Rattle.std.proofs.lemmas.List.{with_items_is}
use Rattle.sx_curve.specs.declared.quote.Quote.{Quote}
use Rattle.sx_curve.specs.Listed.{AreBuilt}
use Rattle.sx_curve.proofs.Building.{whole, whole_are}
use Rattle.sx_curve.proofs.curves_builder.CurvesBuilder.finish.Goals as goal

pub of-requires : goal.of-requires
of-requires c =
    let inside = c.self.inside in
    let ends = c.set_begins.new.begins in
    let built = subst (λ (qs : List Quote). AreBuilt qs inside.points.items inside.begins.items inside.begun)
    c.self.view_is c.self.invariant in
    let same = with_items_is inside.begins ends (omega (arith, c.set_begins.ensures.full, inside.begins.ok)) in
    rw same
    (whole c.args.self inside.points.items inside.begins.items inside.begun built c.args.assets c.requires ends
    (omega (arith, c.set_begins.ensures.full, built.full))
    (λ place low high. c.set_begins.ensures.set place low high ∙ omega (arith, c.len.ensures, inside.points.ok))
    (λ place lt. c.set_begins.ensures.others place lt
    ∙ ap (λ (xs : List ℕ). get_or xs place 0) c.deref_mut.ensures.value))

pub returns-clause-quotes : goal.returns-clause-quotes
returns-clause-quotes c =
    let inside = c.self.inside in
    let ends = c.set_begins.new.begins in
    let built = subst (λ (qs : List Quote). AreBuilt qs inside.points.items inside.begins.items inside.begun)
    c.self.view_is c.self.invariant in
    let same = with_items_is inside.begins ends (omega (arith, c.set_begins.ensures.full, inside.begins.ok)) in
    rw same at c.of.ensures.quotes
    ∙ whole_are c.args.self inside.points.items inside.begins.items inside.begun built c.args.assets c.requires ends
    (omega (arith, c.set_begins.ensures.full, built.full))
    (λ place low high. c.set_begins.ensures.set place low high ∙ omega (arith, c.len.ensures, inside.points.ok))
    (λ place lt. c.set_begins.ensures.others place lt
    ∙ ap (λ (xs : List ℕ). get_or xs place 0) c.deref_mut.ensures.value)
