use Rattle.std.proofs.Common.{◌∙◌}
use Rattle.std.proofs.lemmas.List.{take_all}
use Rattle.sx_curve.proofs.Building.{taken_more}
use Rattle.sx_curve.proofs.PointSums.{fits_more}
use Rattle.sx_curve.proofs.curves.built.Goals as goal

pub push-requires : goal.push-requires
push-requires c =
    let quote = c.quote-item.result in
    rw c.loop-quote.invariant
    (record {
      fits = fits_more c.args.quotes.now c.loop-quote.quote-index quote c.loop-quote-test.true c.quote-item.is
          c.requires.fit;
    })

pub loop-quote-preserved : goal.loop-quote-preserved
loop-quote-preserved c =
    let quotes = c.args.quotes.now in
    let quote = c.quote-item.result in
    let taken = c.in_ok-push.field-0 in
    let told = c.in_ok-push.ensures in
    taken_more quotes c.loop-quote.quote-index quote c.push.new.self taken c.loop-quote-test.true c.quote-item.is
    (rw c.loop-quote.invariant at told.taken)
    (rw c.loop-quote.invariant at told.late)
    c.requires.in_order

pub returns : goal.returns
returns c =
    c.loop-quote.invariant ∙ take_all c.loop-quote.quote-index c.args.quotes.now c.loop-quote-test.false
