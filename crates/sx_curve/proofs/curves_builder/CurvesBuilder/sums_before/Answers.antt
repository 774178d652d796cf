use Rattle.std.proofs.Common.{◌≡◌, ◌+◌, ◌*◌, List, subst, ap, ◌∙◌, arith}
use Rattle.sx_curve.specs.declared.points.Point.{Point}
use Rattle.sx_curve.specs.declared.quote.Quote.{Quote}
use Rattle.sx_curve.specs.Curves.{place_of_quote}
use Rattle.sx_curve.specs.Listed.{AreBuilt}
use Rattle.sx_curve.proofs.Building.{earlier_late, last_amount, last_read, last_weighted, new_stands, new_sum}
use Rattle.sx_curve.proofs.Building.{same_late, same_stands}
use Rattle.sx_curve.proofs.curves_builder.CurvesBuilder.sums_before.Goals as goal

pub returns-then-place-self-clause-amount : goal.returns-then-place-self-clause-amount
returns-then-place-self-clause-amount c =
    let inside = c.self.inside in
    let next = c.args.quote.now in
    let place = c.place_of-place.ensures in
    let built = subst (λ (quotes : List Quote). AreBuilt quotes inside.points.items inside.begins.items inside.begun)
    c.self.view_is c.self.invariant in
    new_sum c.args.self.now inside.points.items inside.begins.items inside.begun built next place.buy
    (omega (arith, place.place, c.if-place-self.true)) (λ quote. quote.amount)

pub returns-then-place-self-clause-weighted : goal.returns-then-place-self-clause-weighted
returns-then-place-self-clause-weighted c =
    let inside = c.self.inside in
    let next = c.args.quote.now in
    let place = c.place_of-place.ensures in
    let built = subst (λ (quotes : List Quote). AreBuilt quotes inside.points.items inside.begins.items inside.begun)
    c.self.view_is c.self.invariant in
    new_sum c.args.self.now inside.points.items inside.begins.items inside.begun built next place.buy
    (omega (arith, place.place, c.if-place-self.true)) (λ quote. quote.amount * quote.limit)

pub returns-then-place-self-clause-stands : goal.returns-then-place-self-clause-stands
returns-then-place-self-clause-stands c =
    let inside = c.self.inside in
    let next = c.args.quote.now in
    let place = c.place_of-place.ensures in
    let built = subst (λ (quotes : List Quote). AreBuilt quotes inside.points.items inside.begins.items inside.begun)
    c.self.view_is c.self.invariant in
    new_stands c.args.self.now inside.points.items inside.begins.items inside.begun built next place.buy
    (omega (arith, place.place, c.if-place-self.true))

pub returns-then-place-self-2-clause-late : goal.returns-then-place-self-2-clause-late
returns-then-place-self-2-clause-late c =
    let inside = c.self.inside in
    let next = c.args.quote.now in
    let place = c.place_of-place.ensures in
    let built = subst (λ (quotes : List Quote). AreBuilt quotes inside.points.items inside.begins.items inside.begun)
    c.self.view_is c.self.invariant in
    elim c.then-place-self-2.branch [
      | goal.then-place-self-2-via-then-place-self-2 w ↦
          earlier_late c.args.self.now inside.points.items inside.begins.items inside.begun built next place.buy
          (omega (arith, place.place, w.if-place-self-2.true))
      | goal.then-place-self-2-via-else-place-self-2+then-get w ↦
          let same : inside.begun ≡ place_of_quote next + 1 =
          omega (arith, place.place, c.if-place-self.false, w.if-place-self-2.false) in
          let last = last_read c.args.self.now inside.points.items inside.begins.items inside.begun built next place.buy
          same c.len.result c.index-last.result.now (omega (arith, c.len.ensures, inside.points.ok))
          c.index-last.ensures in
          same_late c.args.self.now inside.points.items inside.begins.items inside.begun built next place.buy same
          (omega (
            arith,
            w.if-get.true,
            w.get.ensures.value,
            w.get-else-place-self-2.ensures.value,
            ap (λ (point : Point). point.limit) last,
          ))
    ]

pub returns-clause-amount : goal.returns-clause-amount
returns-clause-amount c =
    let inside = c.self.inside in
    let next = c.args.quote.now in
    let place = c.place_of-place.ensures in
    let built = subst (λ (quotes : List Quote). AreBuilt quotes inside.points.items inside.begins.items inside.begun)
    c.self.view_is c.self.invariant in
    let same : inside.begun ≡ place_of_quote next + 1 =
    omega (arith, place.place, c.if-place-self.false, c.if-place-self-2.false) in
    let last = last_read c.args.self.now inside.points.items inside.begins.items inside.begun built next place.buy same
    c.len.result c.index-last.result.now (omega (arith, c.len.ensures, inside.points.ok)) c.index-last.ensures in
    c.sums.ensures.amount
    ∙ ap (λ (point : Point). point.amount) last
    ∙ last_amount c.args.self.now inside.points.items inside.begins.items inside.begun built next place.buy same

pub returns-clause-weighted : goal.returns-clause-weighted
returns-clause-weighted c =
    let inside = c.self.inside in
    let next = c.args.quote.now in
    let place = c.place_of-place.ensures in
    let built = subst (λ (quotes : List Quote). AreBuilt quotes inside.points.items inside.begins.items inside.begun)
    c.self.view_is c.self.invariant in
    let same : inside.begun ≡ place_of_quote next + 1 =
    omega (arith, place.place, c.if-place-self.false, c.if-place-self-2.false) in
    let last = last_read c.args.self.now inside.points.items inside.begins.items inside.begun built next place.buy same
    c.len.result c.index-last.result.now (omega (arith, c.len.ensures, inside.points.ok)) c.index-last.ensures in
    c.sums.ensures.weighted
    ∙ ap (λ (point : Point). point.weighted) last
    ∙ last_weighted c.args.self.now inside.points.items inside.begins.items inside.begun built next place.buy same

pub returns-clause-stands : goal.returns-clause-stands
returns-clause-stands c =
    let inside = c.self.inside in
    let next = c.args.quote.now in
    let place = c.place_of-place.ensures in
    let built = subst (λ (quotes : List Quote). AreBuilt quotes inside.points.items inside.begins.items inside.begun)
    c.self.view_is c.self.invariant in
    let same : inside.begun ≡ place_of_quote next + 1 =
    omega (arith, place.place, c.if-place-self.false, c.if-place-self-2.false) in
    let last = last_read c.args.self.now inside.points.items inside.begins.items inside.begun built next place.buy same
    c.len.result c.index-last.result.now (omega (arith, c.len.ensures, inside.points.ok)) c.index-last.ensures in
    same_stands c.args.self.now inside.points.items inside.begins.items inside.begun built next place.buy same
    (omega (
      arith,
      c.if-get.false,
      c.get.ensures.value,
      c.get-else-place-self-2.ensures.value,
      ap (λ (point : Point). point.limit) last,
    ))
