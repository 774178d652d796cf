use Rattle.std.proofs.Common.{◌≡◌, ℕ, suc, ◌+◌, ◌-◌, ◌<◌, ◌≤◌, List, [], ◌∷◌, length, drop, set, get_or, Option, Some}
use Rattle.std.proofs.Common.{None, slice_get, refl, sym, ap, subst, ◌∙◌, arith}
use Rattle.std.specs.List.{AllByRecursion}
use Rattle.std.proofs.lemmas.List.{drop_all, drop_more}
use Rattle.std.proofs.lemmas.List.Elements.{recursion_from_All}
use Rattle.std.proofs.lemmas.Map.Keys.{sorted_from_strictly_increasing}
use Rattle.std.proofs.lemmas.Option.{same_Some, slice_get_within}
use Rattle.sx_book.specs.Books.{Fits, places}
use Rattle.sx_book.specs.Store.{IsSound, SoFar, given_by, list_of, offers_of}
use Rattle.sx_book.proofs.FillSteps.{amounts_at, at_now, fit, got_is, has_units, list_short, next_is, node_is}
use Rattle.sx_book.proofs.FillSteps.{reduced_is, so_far_first, so_far_next}
use Rattle.sx_book.proofs.Pairs.{pair_is}
use Rattle.sx_book.proofs.store.Store.reduce.Goals as goal
use Rattle.sx_book.proofs.store.Store.reduce.Goals.{in-Some, in_default}
use Rattle.sx_ledger.specs.declared.fill.Fill.{Fill}
use Rattle.sx_ledger.specs.declared.offer.Offer.{Offer}
use Rattle.sx_ledger.specs.Bounds.{pair_of}
use Rattle.sx_links.specs.Lists.{list_at, node_at}

no_fill : Fill
no_fill = record { place = 0; value = 0; gives = 0; gets = 0 }

pub loop-fill-init : goal.loop-fill-init
loop-fill-init c =
    let lists = c.args.self.now.lists.lists in
    let l = list_of c.args.sell c.args.buy in
    let within : l < length lists = omega (arith, c.requires.sound.count) in
    let pair = pair_is c.args.self.now c.requires.sound c.args.sell c.args.buy c.list_of.ensures.buy within in
    record {
      sound = c.requires.sound;
      so_far = so_far_first lists l within c.args.fills.now c.first-at.result
          (c.first-at.ensures.first ∙ ap (λ n. node_at (list_at lists n) 0) c.list_of.ensures.number)
          (sorted_from_strictly_increasing (places c.args.fills.now) c.requires.rising)
          (subst (λ os. AllByRecursion (Fits os) c.args.fills.now) pair
          (recursion_from_All (Fits (pair_of c.args.sell c.args.buy (offers_of c.args.self.now))) c.args.fills.now
          c.requires.within));
    }

pub skip-at-requires : goal.skip-at-requires
skip-at-requires c =
    λ n is. (
    let lists = c.args.self.now.lists.lists in
    let l = list_of c.args.sell c.args.buy in
    let within : l < length lists = omega (arith, c.requires.sound.count) in
    let so = c.loop-fill.invariant.so_far in (
      l,
      length so.done,
      sym (at_now lists l within c.args.fills.now c.loop-fill.self.lists.lists
          (drop c.loop-fill.fill-index c.args.fills.now) c.loop-fill.at c.loop-fill.place so) ∙ is,
    ))

pub next-at-requires : goal.next-at-requires
next-at-requires c =
    let lists = c.args.self.now.lists.lists in
    let l = list_of c.args.sell c.args.buy in
    let within : l < length lists = omega (arith, c.requires.sound.count) in
    let so = c.loop-fill.invariant.so_far in
    let at = at_now lists l within c.args.fills.now c.loop-fill.self.lists.lists
    (drop c.loop-fill.fill-index c.args.fills.now) c.loop-fill.at c.loop-fill.place so in
    (l, _, sym (c.skip-at.ensures l (length so.done) at) ∙ c.in-Some.is)

pub give-requires-clause-has : goal.give-requires-clause-has
give-requires-clause-has c =
    let lists = c.args.self.now.lists.lists in
    let now = c.loop-fill.self.lists.lists in
    let fills = c.args.fills.now in
    let i = c.loop-fill.fill-index in
    let rest = drop i fills in
    let l = list_of c.args.sell c.args.buy in
    let within : l < length lists = omega (arith, c.requires.sound.count) in
    let so = c.loop-fill.invariant.so_far in
    let fill : Fill = get_or fills i (record { place = 0; value = 0; gives = 0; gets = 0 }) in
    let first = drop_more fills i (record { place = 0; value = 0; gives = 0; gets = 0 }) c.loop-fill-test.true in
    let at = at_now lists l within fills now rest c.loop-fill.at c.loop-fill.place so in
    let found = fit lists l within fills now rest c.loop-fill.at c.loop-fill.place so fill (drop (i + 1) fills) first in
    let same = same_Some c.in-Some.node found.0.0 (sym c.in-Some.is ∙ c.skip-at.ensures l (length so.done) at
    ∙ node_is lists l within fills now rest c.loop-fill.at c.loop-fill.place so fill (drop (i + 1) fills) first) in
    has_units lists l within fills now rest c.loop-fill.at c.loop-fill.place so fill (drop (i + 1) fills) first
    c.in-Some.node same

pub overflow_add-place : goal.overflow_add-place
overflow_add-place c =
    let lists = c.args.self.now.lists.lists in
    let fills = c.args.fills.now in
    let i = c.loop-fill.fill-index in
    let l = list_of c.args.sell c.args.buy in
    let within : l < length lists = omega (arith, c.requires.sound.count) in
    let so = c.loop-fill.invariant.so_far in
    let fill : Fill = get_or fills i (record { place = 0; value = 0; gives = 0; gets = 0 }) in
    let first = drop_more fills i (record { place = 0; value = 0; gives = 0; gets = 0 }) c.loop-fill-test.true in
    let found = fit lists l within fills c.loop-fill.self.lists.lists (drop i fills) c.loop-fill.at c.loop-fill.place
    so fill
    (drop (i + 1) fills) first in
    let place = slice_get_within (list_at lists l) fill.place found.0 found.1 in
    let short = list_short c.args.self.now c.requires.sound c.args.sell c.args.buy within in
    omega (arith, place, short)

pub loop-fill-preserved : goal.loop-fill-preserved
loop-fill-preserved c =
    let lists = c.args.self.now.lists.lists in
    let now = c.loop-fill.self.lists.lists in
    let fills = c.args.fills.now in
    let i = c.loop-fill.fill-index in
    let rest = drop i fills in
    let l = list_of c.args.sell c.args.buy in
    let within : l < length lists = omega (arith, c.requires.sound.count) in
    let so = c.loop-fill.invariant.so_far in
    let fill : Fill = get_or fills i (record { place = 0; value = 0; gives = 0; gets = 0 }) in
    let first = drop_more fills i (record { place = 0; value = 0; gives = 0; gets = 0 }) c.loop-fill-test.true in
    let at = at_now lists l within fills now rest c.loop-fill.at c.loop-fill.place so in
    let found = fit lists l within fills now rest c.loop-fill.at c.loop-fill.place so fill (drop (i + 1) fills) first in
    let skipped = c.skip-at.ensures l (length so.done) at
    ∙ node_is lists l within fills now rest c.loop-fill.at c.loop-fill.place so fill (drop (i + 1) fills) first in
    let spot : ℕ = length so.done + (fill.place - c.loop-fill.place) in
    elim c.match-at.branch [
      | in-Some w ↦ (
          let same = same_Some w.in-Some.node found.0.0 (sym w.in-Some.is ∙ skipped) in
          let got = got_is lists l within fills now rest c.loop-fill.at c.loop-fill.place so fill (drop (i + 1) fills)
          first in
          let stands = sym (c.skip-at.ensures l (length so.done) at) ∙ w.in-Some.is in
          record {
            sound = subst IsSound (sym w.self-is) w.give.ensures.sound;
            so_far = so_far_next lists l within fills now rest c.loop-fill.at c.loop-fill.place so fill
                (drop (i + 1) fills) first
                c.match-at.self.lists.lists c.match-at.at
                (amounts_at c.args.self.now c.requires.sound c.args.sell c.args.buy within)
                (ap (λ s. s.lists.lists) w.self-is
                ∙ w.give.ensures.given l spot found.0.1 (got ∙ ap (λ n. Some (n, found.0.1)) (sym same))
                ∙ ap (λ n. set now l (given_by (list_at now l) spot (n, found.0.1) fill.gives)) same)
                (w.at-is ∙ w.next-at.ensures.next l spot stands
                ∙ next_is lists l within fills now rest c.loop-fill.at c.loop-fill.place so fill (drop (i + 1) fills)
                first);
          })
      | in_default w ↦ absurd (let none = w.in_default.is in cc)
    ]

pub returns-clause-reduced : goal.returns-clause-reduced
returns-clause-reduced c =
    let lists = c.args.self.now.lists.lists in
    let now = c.loop-fill.self.lists.lists in
    let fills = c.args.fills.now in
    let l = list_of c.args.sell c.args.buy in
    let within : l < length lists = omega (arith, c.requires.sound.count) in
    let none = drop_all c.loop-fill.fill-index fills (omega arith) in
    reduced_is c.args.self.now c.loop-fill.self c.requires.sound c.args.sell c.args.buy c.list_of.ensures.buy within
    fills
    c.loop-fill.at c.loop-fill.place
    (subst (λ fs. SoFar lists now l fills fs c.loop-fill.at c.loop-fill.place) none c.loop-fill.invariant.so_far)
    (amounts_at c.args.self.now c.requires.sound c.args.sell c.args.buy within)
