use Rattle.std.proofs.Common.{◌≡◌, ◌∙◌, List, ap, arith, get_or, length, subst}
use Rattle.sx_commit.proofs.Levels.{leaf_past, leaf_there}
use Rattle.sx_commit.proofs.subtree.leaf_at.Goals as goal
use Rattle.sx_ledger.specs.declared.account.Account.{Account}

pub returns-then-place-accounts : goal.returns-then-place-accounts
returns-then-place-accounts c =
    let account = c.index-accounts-place.result in
    let place = c.args.place in
    c.leaf_digest.ensures.hash
    ∙ leaf_there c.args.parts.now place account
    (omega (arith, c.if-place-accounts.true, ap length c.items-accounts.ensures))
    (subst (λ (all : List Account). account ≡ get_or all place account) c.items-accounts.ensures
    c.index-accounts-place.is)

pub returns-else-place-accounts : goal.returns-else-place-accounts
returns-else-place-accounts c =
    c.empty_digest.ensures.hash
    ∙ leaf_past c.args.parts.now c.args.place
    (omega (arith, c.if-place-accounts.false, ap length c.items-accounts.ensures))
