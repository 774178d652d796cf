use Rattle.std.proofs.Common.{ℕ, ◌+◌, List, get_or, subst, sym, ap, ◌∙◌, arith}
use Rattle.std.proofs.lemmas.List.{with_items_is}
use Rattle.std.proofs.lemmas.List.Elements.{All-filter}
use Rattle.sx_curve.specs.declared.quote.Quote.{Quote}
use Rattle.sx_curve.specs.Curves.{HasLimit}
use Rattle.sx_curve.specs.Listed.{AreBuilt}
use Rattle.sx_curve.specs.Quotes.{pair_of}
use Rattle.sx_curve.proofs.BelowSums.{is_of, weight_fits}
use Rattle.sx_curve.proofs.Building.{built_are, last_begun, new_built, same_built}
use Rattle.sx_curve.proofs.curves_builder.CurvesBuilder.push.Goals as goal

pub after-requires-clause-weighted : goal.after-requires-clause-weighted
after-requires-clause-weighted c =
    let inside = c.self.inside in
    let quotes = c.args.self.now in
    let next = c.args.quote.now in
    let before = c.in-Some.ensures in
    let built = subst (λ (qs : List Quote). AreBuilt qs inside.points.items inside.begins.items inside.begun)
    c.self.view_is c.self.invariant in
    let fits = weight_fits (pair_of next.sell next.buy quotes)
    (All-filter (is_of next.sell next.buy) HasLimit quotes built.limits) in
    omega (arith, before.amount, before.weighted, fits)

pub invariant_of-self-then-self-place : goal.invariant_of-self-then-self-place
invariant_of-self-then-self-place c =
    let inside = c.self.inside in
    let quotes = c.args.self.now in
    let next = c.args.quote.now in
    let place = c.place_of-place.ensures in
    let before = c.in-Some.ensures in
    let point = c.after.ensures in
    let ends = c.set_begins.new.begins in
    let pushed = c.in_ok-push.ensures.items in
    let built = subst (λ (qs : List Quote). AreBuilt qs inside.points.items inside.begins.items inside.begun)
    c.self.view_is c.self.invariant in
    let more = new_built quotes inside.points.items inside.begins.items inside.begun built next place.buy
    point.in_range before.stands c.after.result point.limit (omega (arith, point.amount, before.amount))
    (omega (arith, point.weighted, before.weighted)) c.push.new.self.items pushed ends (c.place_of-place.result + 1)
    (omega (arith, place.place, c.if-self-place.true)) (omega (arith, c.set_begins.ensures.full, built.full))
    (omega (arith, place.place)) (omega (arith, place.in_range))
    (λ p low high. c.set_begins.ensures.set p low high ∙ omega (arith, c.len-count.ensures, inside.points.ok))
    (λ p lt. c.set_begins.ensures.others p lt
    ∙ ap (λ (xs : List ℕ). get_or xs p 0) c.deref_mut.ensures.value) in
    let same = with_items_is inside.begins ends (omega (arith, c.set_begins.ensures.full, inside.begins.ok)) in
    rw same
    (subst (λ (qs : List Quote). AreBuilt qs c.push.new.self.items ends (c.place_of-place.result + 1))
    (sym (built_are _ c.push.new.self.items ends (c.place_of-place.result + 1) more)) more)

pub invariant_of-self-else-self-place : goal.invariant_of-self-else-self-place
invariant_of-self-else-self-place c =
    let inside = c.self.inside in
    let quotes = c.args.self.now in
    let next = c.args.quote.now in
    let place = c.place_of-place.ensures in
    let before = c.in-Some.ensures in
    let point = c.after.ensures in
    let pushed = c.in_ok-push.ensures.items in
    let built = subst (λ (qs : List Quote). AreBuilt qs inside.points.items inside.begins.items inside.begun)
    c.self.view_is c.self.invariant in
    let more = same_built quotes inside.points.items inside.begins.items inside.begun built next place.buy
    point.in_range before.stands c.after.result point.limit (omega (arith, point.amount, before.amount))
    (omega (arith, point.weighted, before.weighted)) c.push.new.self.items pushed
    (last_begun quotes inside.points.items inside.begins.items inside.begun built next place.buy before.stands
    (omega (arith, place.place, c.if-self-place.false))) in
    subst (λ (qs : List Quote). AreBuilt qs c.push.new.self.items inside.begins.items inside.begun)
    (sym (built_are _ c.push.new.self.items inside.begins.items inside.begun more)) more

pub returns-then-self-place-clause-taken : goal.returns-then-self-place-clause-taken
returns-then-self-place-clause-taken c _ =
    let inside = c.self.inside in
    let quotes = c.args.self.now in
    let next = c.args.quote.now in
    let place = c.place_of-place.ensures in
    let before = c.in-Some.ensures in
    let point = c.after.ensures in
    let ends = c.set_begins.new.begins in
    let pushed = c.in_ok-push.ensures.items in
    let built = subst (λ (qs : List Quote). AreBuilt qs inside.points.items inside.begins.items inside.begun)
    c.self.view_is c.self.invariant in
    let more = new_built quotes inside.points.items inside.begins.items inside.begun built next place.buy
    point.in_range before.stands c.after.result point.limit (omega (arith, point.amount, before.amount))
    (omega (arith, point.weighted, before.weighted)) c.push.new.self.items pushed ends (c.place_of-place.result + 1)
    (omega (arith, place.place, c.if-self-place.true)) (omega (arith, c.set_begins.ensures.full, built.full))
    (omega (arith, place.place)) (omega (arith, place.in_range))
    (λ p low high. c.set_begins.ensures.set p low high ∙ omega (arith, c.len-count.ensures, inside.points.ok))
    (λ p lt. c.set_begins.ensures.others p lt
    ∙ ap (λ (xs : List ℕ). get_or xs p 0) c.deref_mut.ensures.value) in
    let same = with_items_is inside.begins ends (omega (arith, c.set_begins.ensures.full, inside.begins.ok)) in
    rw same (built_are _ c.push.new.self.items ends (c.place_of-place.result + 1) more)

pub returns-else-self-place-clause-taken : goal.returns-else-self-place-clause-taken
returns-else-self-place-clause-taken c _ =
    let inside = c.self.inside in
    let quotes = c.args.self.now in
    let next = c.args.quote.now in
    let place = c.place_of-place.ensures in
    let before = c.in-Some.ensures in
    let point = c.after.ensures in
    let pushed = c.in_ok-push.ensures.items in
    let built = subst (λ (qs : List Quote). AreBuilt qs inside.points.items inside.begins.items inside.begun)
    c.self.view_is c.self.invariant in
    let more = same_built quotes inside.points.items inside.begins.items inside.begun built next place.buy
    point.in_range before.stands c.after.result point.limit (omega (arith, point.amount, before.amount))
    (omega (arith, point.weighted, before.weighted)) c.push.new.self.items pushed
    (last_begun quotes inside.points.items inside.begins.items inside.begun built next place.buy before.stands
    (omega (arith, place.place, c.if-self-place.false))) in
    built_are _ c.push.new.self.items inside.begins.items inside.begun more
