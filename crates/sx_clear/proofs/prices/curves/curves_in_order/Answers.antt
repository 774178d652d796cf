use Rattle.std.proofs.Common.{◌≡◌, List, [], ◌∷◌, ◌++◌, get_or, length, take, subst, sym, ap, ◌∙◌}
use Rattle.std.proofs.Common.{arith}
use Rattle.std.proofs.lemmas.List.{get_or-map, length-map, take_all, take_more}
use Rattle.sx_multi.specs.Quotes.{quote_of, quotes_of}
use Rattle.sx_clear.proofs.OfferLaws.{quotes_are}
use Rattle.sx_clear.proofs.prices.curves.curves_in_order.Goals as goal
use Rattle.sx_curve.specs.declared.quote.Quote.{Quote}
use Rattle.sx_curve.specs.Curves.{AreQuotes}
use Rattle.sx_curve.proofs.BelowSums.{pairs_fit}
use Rattle.sx_curve.proofs.PointSums.{fits_more}

pub push-requires : goal.push-requires
push-requires c =
    let offers = c.args.offers.now in
    let quotes : List Quote = quotes_of offers in
    let k = c.loop-offer.offer-index in
    let quote = c.quote_of.result in
    let long : length quotes ≡ length offers = length-map offers quote_of in
    let is : quote ≡ get_or quotes k quote =
    c.quote_of.ensures ∙ ap quote_of c.offer-item.is
    ∙ sym (get_or-map quote_of offers k c.offer-item.result quote c.loop-offer-test.true) in
    let market = quotes_are c.args.assets offers c.requires.assets c.requires.offers in
    rw c.loop-offer.invariant
    (record {
      fits = fits_more quotes k quote (omega (arith, c.loop-offer-test.true)) is
          (pairs_fit c.args.assets quotes market);
    })

pub loop-offer-preserved : goal.loop-offer-preserved
loop-offer-preserved c =
    let offers = c.args.offers.now in
    let quotes : List Quote = quotes_of offers in
    let k = c.loop-offer.offer-index in
    let quote = c.quote_of.result in
    let long : length quotes ≡ length offers = length-map offers quote_of in
    let is : quote ≡ get_or quotes k quote =
    c.quote_of.ensures ∙ ap quote_of c.offer-item.is
    ∙ sym (get_or-map quote_of offers k c.offer-item.result quote c.loop-offer-test.true) in
    let more = take_more quotes k quote (omega (arith, c.loop-offer-test.true)) in
    c.in_ok-push.ensures.taken c.if-not-branch.false
    ∙ ap (λ (front : List Quote). front ++ quote ∷ []) c.loop-offer.invariant
    ∙ ap (λ (last : Quote). take k quotes ++ last ∷ []) is
    ∙ sym more

pub finish-requires : goal.finish-requires
finish-requires c =
    let offers = c.args.offers.now in
    let quotes : List Quote = quotes_of offers in
    let long : length quotes ≡ length offers = length-map offers quote_of in
    let all = take_all c.loop-offer.offer-index quotes (omega (arith, c.loop-offer-test.false)) in
    subst (AreQuotes c.args.assets) (sym (c.loop-offer.invariant ∙ all))
    (quotes_are c.args.assets offers c.requires.assets c.requires.offers)
