use Rattle.std.proofs.Common.{◌≡◌, ℕ, ◌+◌, ◌^◌, ◌<◌, ◌≤◌, List, get_or, length, map, sym, ap, ap₂, subst, ◌∙◌}
use Rattle.std.specs.Prelude.{All, IfSome, slice_get}
use Rattle.sx_apply.proofs.FillTotals.{within_of}
use Rattle.sx_apply.proofs.Trades.{after_is, all_paid, can_trade, parts_same, rounding_fits}
use Rattle.sx_apply.proofs.trading.settle.Goals as goal
use Rattle.sx_fill.specs.AllFills.{all_fills}
use Rattle.sx_ledger.specs.declared.fill.Fill.{Fill}
use Rattle.sx_ledger.specs.declared.offer.Offer.{Offer}
use Rattle.sx_ledger.specs.declared.parts.Parts.{Parts}
use Rattle.sx_ledger.specs.Ledger.{IsLedger}
use Rattle.sx_ledger.specs.Trade.{account_traded, added, offers_traded}

pub with_rounding-requires-clause-fits : goal.with_rounding-requires-clause-fits
with_rounding-requires-clause-fits c =
    let had = c.requires in
    let can = had.can_execute in
    let more = c.args.rounding.now in
    let fits = rounding_fits had.before c.args.prices.now can.flow more had.ledger had.below_last can.tradable
    can.rounded in
    let P : List ℕ → List ℕ → Type 0 = λ xs ys. (k : ℕ) → k < length xs → get_or xs k 0 + get_or ys k 0 < 2 ^ 64 in
    subst (λ (ys : List ℕ). P c.args.parts.rounding ys) (sym c.items-2.ensures)
    (subst (λ (p : Parts). P p.rounding more) (sym had.paid) fits)

pub lessened-requires-clause-within : goal.lessened-requires-clause-within
lessened-requires-clause-within c =
    let had = c.requires in
    let can = had.can_execute in
    let ps = c.args.prices.now in
    let now : had.before.offers ≡ c.into_items.result.items =
    sym (c.into_items.ensures ∙ ap (λ (p : Parts). p.offers) had.paid) in
    let trade = can_trade had.before ps can.flow c.args.rounding.now had.ledger had.below_last can.tradable
    can.rounded in
    subst (λ (os : List Offer). All
    (λ (fill : Fill). IfSome (slice_get os fill.place) (λ offer. fill.gives ≤ offer.amount)) c.args.fills.now) now
    (within_of had.before.offers ps can.flow trade c.args.fills.now can.are)

pub lessened-requires-clause-some : goal.lessened-requires-clause-some
lessened-requires-clause-some c =
    let had = c.requires in
    let now : had.before.offers ≡ c.into_items.result.items =
    sym (c.into_items.ensures ∙ ap (λ (p : Parts). p.offers) had.paid) in
    subst (λ (os : List Offer). All (λ (offer : Offer). 1 ≤ offer.amount) os) now
    (λ k d lt. (had.ledger.offers k d lt).amount.0)

pub of-requires-2 : goal.of-requires-2
of-requires-2 c =
    let had = c.requires in
    let ledger = had.before in
    let can = had.can_execute in
    let flow = can.flow in
    let ps = c.args.prices.now in
    let more = c.args.rounding.now in
    let same = had.paid in
    let prices : c.of-copy.result ≡ ps =
    c.of-copy.ensures ∙ c.in_ok-to_vec.ensures.items_if_clones_equal (λ x y e. e) ∙ c.items.ensures in
    let rounding : c.with_rounding.result ≡ added ledger.rounding more =
    c.with_rounding.ensures ∙ ap₂ added (ap (λ (p : Parts). p.rounding) same) c.items-2.ensures in
    let accounts : c.args.parts.accounts ≡ map (account_traded ps flow ledger.offers) ledger.accounts =
    ap (λ (p : Parts). p.accounts) same ∙ all_paid ps flow ledger.offers c.args.fills.now can.are ledger.accounts in
    let entries : c.into_items.result.items ≡ ledger.offers = c.into_items.ensures ∙
    ap (λ (p : Parts). p.offers) same in
    let left : c.of.result ≡ offers_traded ps flow ledger.offers =
    c.of.ensures ∙ c.lessened.ensures ps flow (can.are ∙ ap (all_fills ps flow) (sym entries))
    ∙ ap (offers_traded ps flow) entries in
    subst IsLedger
    (sym (parts_same c.args.parts.version ledger.version (c.args.parts.height + 1)
    (ledger.height + 1) c.of-copy.result ps c.with_rounding.result (added ledger.rounding more)
    c.args.parts.accounts (map (account_traded ps flow ledger.offers) ledger.accounts)
    c.of.result (offers_traded ps flow ledger.offers)
    (ap (λ (p : Parts). p.version) same) (ap (λ (p : Parts). p.height + 1) same) prices rounding accounts left))
    (after_is ledger ps flow more had.ledger had.below_last can.tradable can.rounded)

pub returns : goal.returns
returns c = λ before flow paid are.
    let ps = c.args.prices.now in
    let more = c.args.rounding.now in
    let prices : c.of-copy.result ≡ ps =
    c.of-copy.ensures ∙ c.in_ok-to_vec.ensures.items_if_clones_equal (λ x y e. e) ∙ c.items.ensures in
    let rounding : c.with_rounding.result ≡ added before.rounding more =
    c.with_rounding.ensures ∙ ap₂ added (ap (λ (p : Parts). p.rounding) paid) c.items-2.ensures in
    let accounts : c.args.parts.accounts ≡ map (account_traded ps flow before.offers) before.accounts =
    ap (λ (p : Parts). p.accounts) paid ∙ all_paid ps flow before.offers c.args.fills.now are before.accounts in
    let entries : c.into_items.result.items ≡ before.offers = c.into_items.ensures ∙
    ap (λ (p : Parts). p.offers) paid in
    let left : c.of.result ≡ offers_traded ps flow before.offers =
    c.of.ensures ∙ c.lessened.ensures ps flow (are ∙ ap (all_fills ps flow) (sym entries))
    ∙ ap (offers_traded ps flow) entries in
    c.of-2.ensures
    ∙ parts_same c.args.parts.version before.version (c.args.parts.height + 1)
    (before.height + 1) c.of-copy.result ps c.with_rounding.result (added before.rounding more)
    c.args.parts.accounts (map (account_traded ps flow before.offers) before.accounts)
    c.of.result (offers_traded ps flow before.offers)
    (ap (λ (p : Parts). p.version) paid) (ap (λ (p : Parts). p.height + 1) paid) prices rounding accounts left
