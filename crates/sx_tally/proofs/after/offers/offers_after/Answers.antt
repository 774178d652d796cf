use Rattle.std.proofs.Common.{◌≡◌, Bool, List, length, ap, subst, sym, ◌∙◌, rules}
use Rattle.std.specs.List.{list_any}
use Rattle.std.specs.List.Sorted.{IsPermutation}
use Rattle.std.proofs.lemmas.Bool.{OnTrue_at}
use Rattle.sx_tally.specs.Merging.{merged}
use Rattle.sx_tally.specs.Changes.{AreFlags}
use Rattle.sx_tally.proofs.OffersAfter.{offers_are, offers_stay}
use Rattle.sx_tally.proofs.after.offers.offers_after.Goals as goal
use Rattle.sx_ledger.specs.declared.offer.Offer.{Offer}
use Rattle.sx_ledger.specs.declared.parts.Parts.{Parts}
use Rattle.sx_ledger.specs.Body.{cancelled, kept_offers, made as made_by}
use Rattle.sx_ledger.specs.Order.{key_of, same_key}

pub returns-then-is_none_set : goal.returns-then-is_none_set
returns-then-is_none_set c = λ txs body is.
    let ledger = c.args.ledger.now in
    let test : Offer → Bool = λ offer. list_any (same_key (key_of offer)) (cancelled txs) in
    let flags = c.cancelled_flags-flags in
    let are : AreFlags test ledger.offers flags.result.now =
    subst (AreFlags test ledger.offers) (sym flags.ensures) is.cancelled.flags in
    let none : length (made_by txs) ≡ 0 = ap length (sym (c.made_offers-made.ensures ∙ is.made)) ∙ search rules in
    offers_stay ledger txs flags.result.now are (OnTrue_at c.if-is_none_set.true c.is_none_set.ensures) none

pub returns : goal.returns
returns c = λ txs body is.
    let ledger = c.args.ledger.now in
    let sorted = c.in_ok-sorted.sorted.items in
    let flags = c.args.tally.now.cancellations.flags.items in
    let test : Offer → Bool = λ offer. list_any (same_key (key_of offer)) (cancelled txs) in
    let items = c.items-offers.ensures ∙ ap (λ (p : Parts). p.offers) c.parts.ensures.parts in
    let are : AreFlags test c.items-offers.result.now c.cancelled_flags-flags.result.now =
    subst (AreFlags test c.items-offers.result.now) (sym c.cancelled_flags-flags.ensures)
    (subst (λ (offers : List Offer). AreFlags test offers flags) (sym items) is.cancelled.flags) in
    let moved = subst (λ (offers : List Offer). IsPermutation offers sorted) (c.made_offers-made.ensures ∙ is.made)
    c.in_ok-sorted.ensures.all in
    c.of.ensures ∙ c.in_ok-all.ensures test are
    ∙ ap (merged (kept_offers c.items-offers.result.now txs)) c.deref.ensures.value
    ∙ ap (λ (offers : List Offer). merged (kept_offers offers txs) sorted) items
    ∙ offers_are ledger txs c.parts.ensures.kept body sorted moved c.in_ok-sorted.ensures.sorted
