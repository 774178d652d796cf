use Rattle.std.proofs.Common.{◌≡◌, eqb, true, List, [], length, map, sym, ap, ◌∙◌}
use Rattle.std.proofs.lemmas.Bool.{eqb-true}
use Rattle.std.proofs.lemmas.List.{nil_from_length}
use Rattle.sx_apply.specs.FillSums.{paid_by}
use Rattle.sx_apply.proofs.PaidAccounts.{nothing_paid}
use Rattle.sx_apply.proofs.proceeds.pay_sellers.Goals as goal
use Rattle.sx_ledger.specs.declared.fill.Fill.{Fill}

pub returns-then-is_empty-clause-paid : goal.returns-then-is_empty-clause-paid
returns-then-is_empty-clause-paid c =
    let counted : eqb (length c.args.fills.now) 0 ≡ true = sym c.is_empty.ensures ∙ c.if-is_empty.true in
    let none : c.args.fills.now ≡ [] =
    nil_from_length c.args.fills.now (eqb-true (length c.args.fills.now) 0 counted) in
    nothing_paid c.args.offers.now c.args.accounts.now
    ∙ ap (λ (fs : List Fill). map (paid_by c.args.offers.now fs) c.args.accounts.now) (sym none)
