use Rattle.std.proofs.Common.{refl, arith}
use Rattle.std.proofs.lemmas.Bool.{not-true}
use Rattle.std.proofs.lemmas.List.{length-map}
use Rattle.std.proofs.lemmas.Option.{slice_get_within}
use Rattle.sx_ledger.specs.declared.account.Account.{Account}
use Rattle.sx_ledger.specs.Ledger.{ids}
use Rattle.sx_ledger.proofs.SequenceChecks.{not_there, inside, used, behind, beyond}
use Rattle.sx_ledger.proofs.ledger.Ledger.check_number.Goals as goal

pub returns-in_default-clause-tells : goal.returns-in_default-clause-tells
returns-in_default-clause-tells c =
    not_there c.args.self.now c.args.tx.now (rw c.in_default.is at c.requires.absent)

pub account-requires : goal.account-requires
account-requires c =
    let within = slice_get_within (ids c.args.self.now.accounts)
    c.in-Some.place c.args.tx.now.account.0 (rw c.in-Some.is at c.requires.found) in
    omega (arith, length-map c.args.self.now.accounts (λ (account : Account). account.id.0))

pub returns-in-Ok-clause-tells : goal.returns-in-Ok-clause-tells
returns-in-Ok-clause-tells c =
    let window = c.in-Ok.ensures.inside.0 refl in
    inside c.args.self.now c.args.tx.now c.in-Some.place c.account.result.now c.account.ensures.kept.by_id
    (rw c.in-Some.is at c.requires.found) c.account.ensures.account window.0 window.1 (not-true _ window.2)

pub returns-in-Err-Behind-clause-tells : goal.returns-in-Err-Behind-clause-tells
returns-in-Err-Behind-clause-tells c =
    behind c.args.self.now c.args.tx.now c.in-Some.place c.account.result.now c.account.ensures.kept.by_id
    (rw c.in-Some.is at c.requires.found) c.account.ensures.account
    (c.in-Err-Behind.ensures.behind.0 (rw c.in-Err-Behind.field-0-is refl))

pub returns-in-Err-Beyond-clause-tells : goal.returns-in-Err-Beyond-clause-tells
returns-in-Err-Beyond-clause-tells c =
    beyond c.args.self.now c.args.tx.now c.in-Some.place c.account.result.now c.account.ensures.kept.by_id
    (rw c.in-Some.is at c.requires.found) c.account.ensures.account
    (c.in-Err-Beyond.ensures.beyond.0 (rw c.in-Err-Beyond.field-0-is refl))

pub returns-in-Err-Used-clause-tells : goal.returns-in-Err-Used-clause-tells
returns-in-Err-Used-clause-tells c =
    let window = c.in-Err-Used.ensures.used.0 (rw c.in-Err-Used.field-0-is refl) in
    used c.args.self.now c.args.tx.now c.in-Some.place c.account.result.now c.account.ensures.kept.by_id
    (rw c.in-Some.is at c.requires.found) c.account.ensures.account window.0 window.1 window.2
