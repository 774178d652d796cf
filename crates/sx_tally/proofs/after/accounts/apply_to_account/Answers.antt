use Rattle.std.proofs.Common.{◌≡◌, ℕ, ◌≤◌, inl, inr, subst, arith}
use Rattle.std.specs.Prelude.{◌⊎◌}
use Rattle.std.proofs.lemmas.Bool.{cases_eq}
use Rattle.std.proofs.lemmas.Option.{slice_get_within}
use Rattle.sx_tally.proofs.KnownAccounts.{account_is, all_covered, all_fit, last_fits, numbers_fit, rows_fit}
use Rattle.sx_tally.proofs.after.accounts.apply_to_account.Goals as goal

one_or_two : (v : ℕ) → 1 ≤ v → v ≤ 2 → (v ≡ 1) ⊎ (v ≡ 2)
one_or_two v some few = elim (cases_eq v 1) [
  | inl one ↦ inl one
  | inr other ↦ inr (omega arith)
]

pub change_account-requires : goal.change_account-requires
change_account-requires c =
    let at = c.requires in
    let parts = at.parts in
    let keeps = at.ledger in
    let txs = at.body.txs in
    let body = at.body.body in
    let is = at.body.is in
    let tally = c.args.tally.now in
    let place = c.args.place in
    let account = c.args.account.now in
    record {
      version = subst (λ (v : ℕ). (v ≡ 1) ⊎ (v ≡ 2)) at.same_version
          (one_or_two parts.version keeps.some_version keeps.few_versions);
      last = last_fits parts txs keeps is.in_range body tally is place account at.there;
      place = omega (arith, is.shape.maps, slice_get_within parts.accounts place account at.there);
      rows = rows_fit parts txs keeps is.in_range body tally is place account at.there;
      in_range = numbers_fit parts txs keeps is.in_range body tally is place account at.there;
      covers = all_covered parts txs keeps is.in_range body tally is place account at.there;
      fits = all_fit parts txs keeps is.in_range body tally is place account at.there;
    }

pub returns : goal.returns
returns c = λ parts txs keeps same there body is.
    let tally = c.args.tally.now in
    let place = c.args.place in
    let account = c.args.account.now in
    let changed = c.change_account.ensures in
    account_is parts txs keeps is.in_range body tally is place account there c.change_account.new.account changed.id
    (rw same changed.window) changed.as_many changed.each
