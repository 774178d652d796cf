use Rattle.std.proofs.Common.{◌≡◌, ◌<◌, List, Some, get_or, length, map, subst, sym, ap, ◌∙◌, arith, rules}
use Rattle.std.specs.Prelude.{slice_get}
use Rattle.std.proofs.lemmas.List.{length-set}
use Rattle.std.proofs.lemmas.Option.{slice_get-get_or}
use Rattle.sx_tally.proofs.InPlace.{all_done, done_more, rest_more}
use Rattle.sx_tally.proofs.after.accounts.apply_to_known.Goals as goal
use Rattle.sx_ledger.specs.declared.account.Account.{Account}
use Rattle.sx_ledger.specs.declared.parts.Parts.{Parts}
use Rattle.sx_ledger.specs.Body.{account_after}
use Rattle.sx_ledger.specs.Ledger.{IsLedger}

pub loop-place-init : goal.loop-place-init
loop-place-init c =
    let same = c.into_parts-version.ensures.parts in
    let items : c.into_items-accounts.result.items ≡ c.args.ledger.accounts =
    c.into_items-accounts.ensures ∙ ap (λ (p : Parts). p.accounts) same in
    record {
      as_many = ap length items;
      done = λ txs body is k d below. absurd (omega arith);
      rest = λ k d above. ap (λ (xs : List Account). get_or xs k d) items;
    }

pub apply_to_account-requires : goal.apply_to_account-requires
apply_to_account-requires c =
    let ledger = c.args.ledger in
    let same = c.into_parts-version.ensures.parts in
    let inv = c.loop-place.invariant in
    let place = c.loop-place.place in
    let account = c.index_mut-account.result.now in
    let lt : place < length ledger.accounts = search rules in
    record {
      parts = ledger;
      ledger = subst IsLedger same c.into_parts-version.ensures.kept;
      same_version = sym (ap (λ (p : Parts). p.version) same);
      there =
          slice_get-get_or ledger.accounts place account lt
          ∙ ap (λ (a : Account). Some a)
          (sym (c.index_mut-account.ensures.value ∙ inv.rest place account (omega arith)));
      body = c.requires.body;
    }

pub loop-place-preserved : goal.loop-place-preserved
loop-place-preserved c =
    let ledger = c.args.ledger in
    let same = c.into_parts-version.ensures.parts in
    let keeps : IsLedger ledger = subst IsLedger same c.into_parts-version.ensures.kept in
    let inv = c.loop-place.invariant in
    let place = c.loop-place.place in
    let account = c.index_mut-account.result.now in
    let lt : place < length ledger.accounts = search rules in
    let is_at : account ≡ get_or ledger.accounts place account =
    c.index_mut-account.ensures.value ∙ inv.rest place account (omega arith) in
    let there : slice_get ledger.accounts place ≡ Some account =
    slice_get-get_or ledger.accounts place account lt ∙ ap (λ (a : Account). Some a) (sym is_at) in
    let now = c.loop-place.accounts.items in
    let after = c.apply_to_account.new.account in
    record {
      as_many = length-set now place after ∙ inv.as_many;
      done = λ txs body is.
          done_more (account_after ledger txs) ledger.accounts now inv.as_many place account after lt is_at
          (c.apply_to_account.ensures ledger txs keeps (sym (ap (λ (p : Parts). p.version) same)) there body is)
          (inv.done txs body is);
      rest = rest_more ledger.accounts now place after inv.rest;
    }

pub returns-clause-known : goal.returns-clause-known
returns-clause-known c = λ txs body is.
    let ledger = c.args.ledger in
    let same = c.into_parts-version.ensures.parts in
    let inv = c.loop-place.invariant in
    let accounts : c.loop-place.accounts.items ≡ map (account_after ledger txs) ledger.accounts =
    all_done (account_after ledger txs) ledger.accounts c.loop-place.accounts.items inv.as_many
    (λ k d lt. inv.done txs body is k d (search rules)) in
    let made : Parts → List Account → Parts = λ p entries. record p { accounts = entries } in
    ap (λ (p : Parts). made p c.of.result) same ∙ ap (made ledger) (c.of.ensures ∙ accounts)

pub returns-clause-kept : goal.returns-clause-kept
returns-clause-kept c = subst IsLedger c.into_parts-version.ensures.parts c.into_parts-version.ensures.kept
