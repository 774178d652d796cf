use Rattle.std.proofs.Common.{◌≡◌, List, length, map, subst, sym, ap, ◌∙◌, rules}
use Rattle.sx_apply.proofs.WrittenBack.{written_back}
use Rattle.sx_ledger.specs.declared.account.Account.{Account}
use Rattle.sx_ledger.specs.declared.parts.Parts.{Parts}
use Rattle.sx_ledger.specs.Body.{account_after}
use Rattle.sx_ledger.specs.Ledger.{IsLedger}
use Rattle.sx_spread.proofs.body.known_after.Goals as goal

pub change_all-requires-clause-accounts : goal.change_all-requires-clause-accounts
change_all-requires-clause-accounts g c = λ κs out.
    let same = c.into_parts-version.ensures.parts in
    record {
      parts = c.args.ledger;
      ledger = subst IsLedger same c.into_parts-version.ensures.kept;
      same_version = sym (ap (λ (p : Parts). p.version) same);
      are =
          sym (c.deref_mut.ensures.value ∙ c.into_items-accounts.ensures ∙ ap (λ (p : Parts). p.accounts) same);
      body = c.requires.body;
    }

pub returns-clause-known : goal.returns-clause-known
returns-clause-known g c = λ txs body is.
    let ledger = c.args.ledger in
    let same = c.into_parts-version.ensures.parts in
    let keeps : IsLedger ledger = subst IsLedger same c.into_parts-version.ensures.kept in
    let v = c.into_items-accounts.result in
    let had : length v.items ≡ v.len = search rules in
    let as_many : length c.change_all.new.accounts ≡ v.len = search rules in
    let old = c.deref_mut.ensures.value ∙ c.into_items-accounts.ensures ∙ ap (λ (p : Parts). p.accounts) same in
    let accounts : c.of.result ≡ map (account_after ledger txs) ledger.accounts =
    c.of.ensures ∙ written_back v.len c.change_all.new.accounts v.items as_many had
    ∙ c.change_all.ensures ledger txs keeps (sym (ap (λ (p : Parts). p.version) same)) (sym old) body is
    ∙ ap (map (account_after ledger txs)) old in
    let made : Parts → List Account → Parts = λ p entries. record p { accounts = entries } in
    ap (λ (p : Parts). made p c.of.result) same ∙ ap (made ledger) accounts

pub returns-clause-kept : goal.returns-clause-kept
returns-clause-kept g c = subst IsLedger c.into_parts-version.ensures.parts c.into_parts-version.ensures.kept
