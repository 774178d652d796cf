use Rattle.std.proofs.Common.{◌<◌, length, subst, take_all, arith}
use Rattle.std.specs.Prelude.{All}
use Rattle.std.proofs.lemmas.List.Elements.{All-more}
use Rattle.sx_tally.specs.SortNumbers.{IsInRange}
use Rattle.sx_tally.proofs.after.sorting.offer_ranges.Goals as goal

pub loop-offer-preserved : goal.loop-offer-preserved
loop-offer-preserved c =
    let i = c.loop-offer.offer-index in
    let lt : i < length c.args.offers.now = omega (arith, c.loop-offer-test.true) in
    All-more IsInRange c.args.offers.now i c.offer-item.result lt c.loop-offer.invariant
    (subst IsInRange c.offer-item.is (record {
      buy = omega (arith, c.get.ensures.value, c.get.ensures.in_range);
      limit = omega (arith, c.get-in-loop-offer.ensures.value, c.get-in-loop-offer.ensures.in_range);
      seq = omega (arith, c.get-in-loop-offer-2.ensures.value, c.get-in-loop-offer-2.ensures.in_range);
    }))

pub returns : goal.returns
returns c =
    subst (All IsInRange) (take_all c.loop-offer.offer-index c.args.offers.now (omega (arith, c.loop-offer-test.false)))
    c.loop-offer.invariant
