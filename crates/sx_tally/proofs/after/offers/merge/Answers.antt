use Rattle.std.proofs.Common.{◌+◌, ◌++◌, false, List, drop, get_or, ap, not, ◌∙◌, arith}
use Rattle.std.specs.List.{filter}
use Rattle.std.proofs.lemmas.Option.{slice_get-get_or}
use Rattle.sx_tally.specs.Merging.{merged}
use Rattle.sx_tally.proofs.OffersAfter.{kept_more}
use Rattle.sx_tally.proofs.after.offers.merge.Goals as goal
use Rattle.sx_ledger.specs.declared.offer.Offer.{Offer}

pub loop-place-preserved : goal.loop-place-preserved
loop-place-preserved c = λ test are.
    let offers = c.args.offers.now in
    let flags = c.args.flags.now in
    let place = c.loop-place.place in
    c.in_ok-left.ensures (filter (λ offer. not (test offer)) (drop (place + 1) offers))
    ∙ ap (λ (kept : List Offer). c.loop-place.all.items ++ merged kept c.loop-place.left.now)
    (kept_more test offers flags are place c.index-offers-place.result (get_or flags place false)
    c.loop-place-test.true c.index-offers-place.is
    (slice_get-get_or flags place false (omega (arith, c.requires))))
    ∙ c.loop-place.invariant test are
