use Rattle.std.proofs.Common.{◌≡◌, ◌+◌, ◌^◌, ◌<◌, get_or, length, refl, ◌∙◌, arith}
use Rattle.std.proofs.lemmas.Option.{slice_get_read}
use Rattle.sx_apply.proofs.FillAdding.{fits_too, in_room, one_added}
use Rattle.sx_apply.proofs.rounding.add_fills.Goals as goal
use Rattle.sx_ledger.specs.declared.fill.Fill.{Fill}
use Rattle.sx_ledger.specs.declared.offer.Offer.{Offer}

none : Fill
none = record { place = 0; value = 0; gives = 0; gets = 0 }

pub overflow_add-given : goal.overflow_add-given
unfolding none
overflow_add-given c =
    let offers = c.args.offers.now in
    let k = c.loop-fill.fill-index in
    let o = c.index-offers-fill.result in
    let at = (get_or c.args.fills.now k none).place in
    let lt = c.requires.places k none c.loop-fill-test.true in
    let there = slice_get_read offers (length offers) at o refl lt c.index-offers-fill.is in
    let is : c.from.result ≡ o.sell = c.from.ensures ∙ c.get.ensures.value in
    let fits : get_or c.loop-fill.given c.from.result 0 + (get_or c.args.fills.now k none).gives < 2 ^ 64 =
    fits_too (λ (o : Offer). o.sell) (λ (f : Fill). f.gives) offers c.args.given.now c.loop-fill.given
    c.args.fills.now k none o c.from.result c.loop-fill-test.true there is
    (in_room (λ (o : Offer). o.sell) offers (length c.args.given.now) at o c.from.result lt c.requires.sold
    c.index-offers-fill.is is)
    c.loop-fill.invariant.given c.requires.given_fits in
    omega arith

pub overflow_add-got : goal.overflow_add-got
unfolding none
overflow_add-got c =
    let offers = c.args.offers.now in
    let k = c.loop-fill.fill-index in
    let o = c.index-offers-fill.result in
    let at = (get_or c.args.fills.now k none).place in
    let lt = c.requires.places k none c.loop-fill-test.true in
    let there = slice_get_read offers (length offers) at o refl lt c.index-offers-fill.is in
    let is : c.from-in-loop-fill.result ≡ o.buy = c.from-in-loop-fill.ensures ∙ c.get-in-loop-fill.ensures.value in
    let fits : get_or c.loop-fill.got c.from-in-loop-fill.result 0 + (get_or c.args.fills.now k none).gets < 2 ^ 64 =
    fits_too (λ (o : Offer). o.buy) (λ (f : Fill). f.gets) offers c.args.got.now c.loop-fill.got c.args.fills.now k
    none o c.from-in-loop-fill.result c.loop-fill-test.true there is
    (in_room (λ (o : Offer). o.buy) offers (length c.args.got.now) at o c.from-in-loop-fill.result lt
    c.requires.bought c.index-offers-fill.is is)
    c.loop-fill.invariant.got c.requires.got_fits in
    omega arith

pub loop-fill-preserved : goal.loop-fill-preserved
unfolding none
loop-fill-preserved c =
    let offers = c.args.offers.now in
    let k = c.loop-fill.fill-index in
    let o = c.index-offers-fill.result in
    let at = (get_or c.args.fills.now k none).place in
    let lt = c.requires.places k none c.loop-fill-test.true in
    let there = slice_get_read offers (length offers) at o refl lt c.index-offers-fill.is in
    let sold : c.from.result ≡ o.sell = c.from.ensures ∙ c.get.ensures.value in
    let bought : c.from-in-loop-fill.result ≡ o.buy = c.from-in-loop-fill.ensures ∙ c.get-in-loop-fill.ensures.value in
    record {
      given =
          one_added (λ (o : Offer). o.sell) (λ (f : Fill). f.gives) offers c.args.given.now c.loop-fill.given
          c.args.fills.now k none o c.from.result c.loop-fill-test.true there sold
          (in_room (λ (o : Offer). o.sell) offers (length c.args.given.now) at o c.from.result lt c.requires.sold
          c.index-offers-fill.is sold)
          c.loop-fill.invariant.given c.loop-fill.auto.given;
      got =
          one_added (λ (o : Offer). o.buy) (λ (f : Fill). f.gets) offers c.args.got.now c.loop-fill.got
          c.args.fills.now k none o c.from-in-loop-fill.result c.loop-fill-test.true there bought
          (in_room (λ (o : Offer). o.buy) offers (length c.args.got.now) at o c.from-in-loop-fill.result lt
          c.requires.bought c.index-offers-fill.is bought)
          c.loop-fill.invariant.got c.loop-fill.auto.got;
    }
