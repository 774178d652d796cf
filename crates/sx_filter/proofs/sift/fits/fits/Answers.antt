use Rattle.std.proofs.Common.{◌≡◌, length, refl, sym, ap, ◌∙◌}
use Rattle.std.proofs.lemmas.Option.{same_Some, slice_get_read}
use Rattle.sx_filter.specs.Alone.{is_twice}
use Rattle.sx_filter.specs.Kept.{same_offer}
use Rattle.sx_filter.proofs.KeptAlone.{by_debits, by_number, by_offer}
use Rattle.sx_filter.proofs.sift.fits.fits.Goals as goal
use Rattle.sx_tx.specs.declared.tx.Tx.{Tx}

pub returns-then-is_number_taken : goal.returns-then-is_number_taken
returns-then-is_number_taken c = λ parts told x at.
    by_number parts c.args.txs.now x (sym (c.is_number_taken.ensures x at) ∙ c.if-is_number_taken.true)

pub returns-then-is_offer_taken : goal.returns-then-is_offer_taken
returns-then-is_offer_taken c = λ parts told x at.
    let txs = c.args.txs.now in
    let tx = c.index-txs-place.result in
    let own : tx ≡ x =
    same_Some tx x
    (sym (slice_get_read txs (length txs) c.args.place tx refl c.requires.place c.index-txs-place.is) ∙ at) in
    by_offer parts txs x (sym (c.is_number_taken.ensures x at) ∙ c.if-is_number_taken.false)
    (ap (λ (t : Tx). is_twice (same_offer t) txs) (sym own)
    ∙ sym (c.is_offer_taken.ensures txs c.requires.offers) ∙ c.if-is_offer_taken.true)

pub returns : goal.returns
returns c = λ parts told x at.
    let txs = c.args.txs.now in
    let tx = c.index-txs-place.result in
    let own : tx ≡ x =
    same_Some tx x
    (sym (slice_get_read txs (length txs) c.args.place tx refl c.requires.place c.index-txs-place.is) ∙ at) in
    told x at
    ∙ by_debits parts txs x (sym (c.is_number_taken.ensures x at) ∙ c.if-is_number_taken.false)
    (ap (λ (t : Tx). is_twice (same_offer t) txs) (sym own)
    ∙ sym (c.is_offer_taken.ensures txs c.requires.offers) ∙ c.if-is_offer_taken.false)
