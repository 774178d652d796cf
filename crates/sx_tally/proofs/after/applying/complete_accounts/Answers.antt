use Rattle.std.proofs.Common.{◌≡◌, List, ap, subst, sym, ◌∙◌}
use Rattle.sx_tally.specs.Accounts.{with_all_accounts}
use Rattle.sx_tally.specs.OfferChanges.{changed_by}
use Rattle.sx_tally.proofs.after.applying.complete_accounts.Goals as goal
use Rattle.sx_ledger.specs.declared.offer.Offer.{Offer}
use Rattle.sx_ledger.specs.declared.parts.Parts.{Parts}
use Rattle.sx_ledger.specs.Body.{offers_after}
use Rattle.sx_ledger.specs.Ledger.{IsLedger}
use Rattle.sx_ledger.proofs.BodyKeepsLedger.{body_keeps_ledger}

pub of-requires : goal.of-requires
of-requires c =
    let had = c.requires in
    let made : Parts → List Offer → Parts = λ p os. record p { offers = os } in
    let parts = c.in_ok-parts.ensures had.before had.txs had.ledger had.body had.is had.known in
    let offers : c.applied.result ≡ offers_after had.before had.txs =
    c.applied.ensures ∙ ap (λ (p : Parts). changed_by c.args.change p.offers) parts ∙ had.after in
    let whole = ap (λ (p : Parts). made p c.applied.result) parts
    ∙ ap (made (with_all_accounts had.before had.txs)) offers in
    subst IsLedger (sym whole) (body_keeps_ledger 2 had.before had.txs had.ledger had.is.in_range had.body)

pub returns : goal.returns
returns c = λ before txs keeps body is known after.
    let made : Parts → List Offer → Parts = λ p os. record p { offers = os } in
    let parts = c.in_ok-parts.ensures before txs keeps body is known in
    let offers : c.applied.result ≡ offers_after before txs =
    c.applied.ensures ∙ ap (λ (p : Parts). changed_by c.args.change p.offers) parts ∙ after in
    c.of.ensures ∙ ap (λ (p : Parts). made p c.applied.result) parts
    ∙ ap (made (with_all_accounts before txs)) offers
