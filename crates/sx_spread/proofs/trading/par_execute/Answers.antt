use Rattle.std.proofs.Common.{◌≡◌, List, length, map, sym, ap, ap₂, subst, ◌∙◌, rules}
use Rattle.sx_apply.specs.FillSums.{paid_by}
use Rattle.sx_apply.specs.Paying.{CanPay}
use Rattle.sx_apply.proofs.Trades.{can_pay}
use Rattle.sx_apply.proofs.WrittenBack.{written_back}
use Rattle.sx_ledger.specs.declared.account.Account.{Account}
use Rattle.sx_ledger.specs.declared.offer.Offer.{Offer}
use Rattle.sx_ledger.specs.declared.parts.Parts.{Parts}
use Rattle.sx_ledger.specs.Ledger.{IsLedger}
use Rattle.sx_spread.proofs.trading.par_execute.Goals as goal

pub pay_parts-requires-clause-pay : goal.pay_parts-requires-clause-pay
pay_parts-requires-clause-pay g c = λ κs out.
    let ledger = c.args.ledger in
    let can = c.requires.fills in
    let same = c.into_parts-version.ensures.parts in
    let keeps : IsLedger ledger = subst IsLedger same c.into_parts-version.ensures.kept in
    let fills = c.args.fills.now in
    subst (λ (xs : List Account). CanPay c.items.result.now fills xs)
    (sym (c.deref_mut.ensures.value ∙ c.into_items-accounts.ensures))
    (subst (λ (os : List Offer). CanPay os fills c.into_parts-version.result.accounts) (sym c.items.ensures)
    (subst (λ (p : Parts). CanPay p.offers fills p.accounts) (sym same)
    (can_pay ledger c.args.prices.now can.flow c.args.rounding.now keeps c.requires.below_last
    can.tradable can.rounded fills can.are)))

pub settle-requires : goal.settle-requires
settle-requires g c =
    let ledger = c.args.ledger in
    let same = c.into_parts-version.ensures.parts in
    let fills = c.args.fills.now in
    let v = c.into_items-accounts.result in
    let had : length v.items ≡ v.len = search rules in
    let as_many : length c.pay_parts.new.accounts ≡ v.len = search rules in
    let paid : c.of.result ≡ map (paid_by ledger.offers fills) ledger.accounts =
    c.of.ensures ∙ written_back v.len c.pay_parts.new.accounts v.items as_many had ∙ c.in_ok-pay_parts.ensures
    ∙ ap₂ (λ (os : List Offer) (xs : List Account). map (paid_by os fills) xs)
    (c.items.ensures ∙ ap (λ (p : Parts). p.offers) same)
    (c.deref_mut.ensures.value ∙ c.into_items-accounts.ensures ∙ ap (λ (p : Parts). p.accounts) same) in
    record {
      before = ledger;
      ledger = subst IsLedger same c.into_parts-version.ensures.kept;
      below_last = c.requires.below_last;
      can_execute = c.requires.fills;
      paid = ap₂ (λ (p : Parts) (xs : List Account). record p { accounts = xs }) same paid;
    }

pub returns : goal.returns
returns g c = λ flow are.
    let ledger = c.args.ledger in
    let same = c.into_parts-version.ensures.parts in
    let fills = c.args.fills.now in
    let v = c.into_items-accounts.result in
    let had : length v.items ≡ v.len = search rules in
    let as_many : length c.pay_parts.new.accounts ≡ v.len = search rules in
    let paid : c.of.result ≡ map (paid_by ledger.offers fills) ledger.accounts =
    c.of.ensures ∙ written_back v.len c.pay_parts.new.accounts v.items as_many had ∙ c.in_ok-pay_parts.ensures
    ∙ ap₂ (λ (os : List Offer) (xs : List Account). map (paid_by os fills) xs)
    (c.items.ensures ∙ ap (λ (p : Parts). p.offers) same)
    (c.deref_mut.ensures.value ∙ c.into_items-accounts.ensures ∙ ap (λ (p : Parts). p.accounts) same) in
    c.settle.ensures ledger flow (ap₂ (λ (p : Parts) (xs : List Account). record p { accounts = xs }) same paid) are
