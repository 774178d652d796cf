use Rattle.std.proofs.Common.{◌≡◌, Some, sym}
use Rattle.std.specs.Prelude.{slice_get}
use Rattle.sx_ledger.specs.declared.account.Account.{Account}
use Rattle.sx_ledger.proofs.Lookup.{mark_is, read_at, owner_is, no_owner}
use Rattle.sx_state.proofs.owners.has_owner.Goals as goal

pub returns-in-Some : goal.returns-in-Some
returns-in-Some c =
    let accounts = c.args.accounts.now in
    let entry = c.index-accounts-place.result in
    let found = rw c.requires at c.in-Some.ensures.found in
    let by_id = rw c.requires at c.in-Some.ensures.by_id in
    let at : slice_get accounts c.in-Some.place ≡ Some entry =
    read_at (λ (account : Account). account.id.0)
    accounts c.in-Some.place c.args.offer.now.account.0 entry found c.index-accounts-place.is in
    let same = mark_is (λ (account : Account). account.id.0)
    accounts c.in-Some.place c.args.offer.now.account.0 entry at found in
    rw (c.has_used.ensures, ← c.index-accounts-place.is)
    (sym (owner_is accounts c.in-Some.place entry at by_id c.args.offer.now same))

pub returns-in-None : goal.returns-in-None
returns-in-None c = sym (no_owner c.args.accounts.now c.args.offer.now (rw c.requires at c.in-None.ensures.absent))
