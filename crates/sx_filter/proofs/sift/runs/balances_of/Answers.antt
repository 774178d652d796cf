use Rattle.std.proofs.Common.{◌≡◌, ℕ, List, get_or, sym, ap, subst, Option, Some}
use Rattle.std.specs.Prelude.{Contains, IfSome, slice_get}
use Rattle.sx_filter.proofs.Holdings.{held_at, none_held}
use Rattle.sx_filter.proofs.sift.runs.balances_of.Goals as goal
use Rattle.sx_ledger.specs.declared.account.Account.{Account}
use Rattle.sx_ledger.specs.Ledger.{balance_at}

pub returns-in-Some : goal.returns-in-Some
returns-in-Some c = λ asset lt.
    let units = get_or c.items.result.now asset 0 in
    held_at c.args.ledger.now.accounts c.account.ensures.kept.by_id c.in-Some.place c.args.account.0 asset units
    (subst (λ (had : List ℕ). slice_get had c.in-Some.place ≡ Some c.args.account.0) c.requires
    c.in-Some.ensures.found)
    (subst (λ (o : Option Account). IfSome o (λ account. units ≡ balance_at asset account))
    (sym c.account.ensures.account) (ap (λ xs. get_or xs asset 0) c.items.ensures))

pub returns-in-None : goal.returns-in-None
returns-in-None c = λ asset lt.
    none_held c.args.ledger.now.accounts c.args.account.0 asset
    (λ found. c.in-None.ensures.absent
    (subst (λ (had : List ℕ). Contains had c.args.account.0) (sym c.requires) found))
