use Rattle.std.proofs.Common.{◌≡◌, ℕ, List, length, sym, subst, ◌∙◌, arith}
use Rattle.std.proofs.lemmas.List.{with_items_is}
use Rattle.sx_tx.proofs.Halves.{many_length}
use Rattle.sx_ledger.specs.declared.offer.Offer.{Offer}
use Rattle.sx_state.specs.Decoding.{offer_at}
use Rattle.sx_state.specs.SoundOffers.{AreOffersAt}
use Rattle.sx_state.proofs.offer_decoding.offers_by.Goals as goal

pub returns : goal.returns
returns g c =
    let payload = c.args.payload.now in
    let assets = c.args.assets in
    let place = c.args.place in
    let count = c.args.count in
    let end = c.in_ok-end.end in
    let offers = c.fill_by.new.offers in
    let slots = length c.deref_mut.result.now in
    let decoded : AreOffersAt payload assets place slots offers end = c.in_ok-end.ensures in
    let made : slots ≡ count =
    omega (arith, c.deref_mut.ensures.len, c.in_ok-offers.ensures.len, c.in_ok-offers.offers.ok) in
    let one_each : length offers ≡ slots =
    many_length (offer_at assets) slots (record { bytes = payload; place = place })
    (record { bytes = payload; place = end }) offers decoded in
    let items : c.of.result ≡ offers =
    c.of.ensures ∙ with_items_is c.in_ok-offers.offers offers (omega (arith, one_each, c.deref_mut.ensures.len)) in
    subst (λ (xs : List Offer). AreOffersAt payload assets place count xs end) (sym items)
    (subst (λ (n : ℕ). AreOffersAt payload assets place n offers end) made decoded)
