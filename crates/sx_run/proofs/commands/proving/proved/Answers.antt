use Rattle.std.proofs.Common.{ℕ, Option, refl, sym, ap, ◌∙◌}
use Rattle.sx_ledger.specs.declared.account.Account.{Account}
use Rattle.sx_meaning.specs.Proving.{shown_account}
use Rattle.sx_run.proofs.Accounts.{found_from, none_from, some_account}
use Rattle.sx_run.proofs.commands.proving.proved.Goals as goal

pub returns-in_ok-proof_record-in-Some-clause-concludes : goal.returns-in_ok-proof_record-in-Some-clause-concludes
returns-in_ok-proof_record-in-Some-clause-concludes g c =
    let parts = c.args.ledger.now in
    let held = some_account parts c.args.id c.in-Some.place c.in-Some.ensures.found in (
      record { parts = parts; are = refl; finds = refl },
      c.in_ok-proof_record-in-Some.ensures held.0 held.1
          ∙ ap (λ (found : Option (ℕ × Account)). shown_account parts found)
          (sym (found_from parts c.args.id c.in-Some.place held.0 c.requires c.in-Some.ensures.found held.1)),
    )

pub returns-in-None-clause-concludes : goal.returns-in-None-clause-concludes
returns-in-None-clause-concludes g c =
    let parts = c.args.ledger.now in (
      record { parts = parts; are = refl; finds = refl },
      c.new.ensures
          ∙ ap (λ (found : Option (ℕ × Account)). shown_account parts found)
          (sym (none_from c.args.id 0 parts.accounts c.in-None.ensures.absent)),
    )
