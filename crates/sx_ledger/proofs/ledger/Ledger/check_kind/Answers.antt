use Rattle.std.proofs.Common.{refl, ◌∙◌}
use Rattle.sx_ledger.proofs.Lookup.{account_told}
use Rattle.sx_ledger.proofs.ledger.Ledger.check_kind.Goals as goal

pub returns-in-Pay-clause-tells : goal.returns-in-Pay-clause-tells
returns-in-Pay-clause-tells c =
    let search = rw c.in-Pay.is at c.requires in
    let told = account_told c.args.self.now.accounts c.in-Pay.to.0 c.args.named search.found search.absent in
    c.check_payment.ensures.tells ∙ rw (c.in-Pay.is, told) refl

pub returns-in-Some-clause-tells : goal.returns-in-Some-clause-tells
returns-in-Some-clause-tells c =
    let search = rw c.in-Create.is at c.requires in
    let told = account_told c.args.self.now.accounts c.in-Create.id.0 c.args.named search.found search.absent in
    rw (c.in-Create.is, ← told, c.in-Some.is) refl

pub returns-in-None-clause-tells : goal.returns-in-None-clause-tells
returns-in-None-clause-tells c =
    let search = rw c.in-Create.is at c.requires in
    let told = account_told c.args.self.now.accounts c.in-Create.id.0 c.args.named search.found search.absent in
    rw (c.in-Create.is, ← told, c.in-None.is) refl
