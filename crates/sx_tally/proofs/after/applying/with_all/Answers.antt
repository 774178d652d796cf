use Rattle.std.proofs.Common.{◌≡◌, ◌++◌, ℕ, List, length, ap, map, subst, sym, ◌∙◌, rules}
use Rattle.std.specs.List.Sorted.{IsPermutation}
use Rattle.sx_tally.specs.Accounts.{fresh, with_known_accounts}
use Rattle.sx_tally.proofs.KnownAccounts.{accounts_are, none_created}
use Rattle.sx_tally.proofs.after.applying.with_all.Goals as goal
use Rattle.sx_ledger.specs.declared.account.Account.{Account}
use Rattle.sx_ledger.specs.declared.parts.Parts.{Parts}
use Rattle.sx_ledger.specs.Body.{account_after, accounts_after, created}
use Rattle.sx_ledger.specs.Ledger.{assets_of}

pub returns-then-is_empty : goal.returns-then-is_empty
returns-then-is_empty c = λ before txs keeps body is known.
    let none : length (created txs) ≡ 0 = ap length (sym (c.created_ids-ids.ensures ∙ is.created.ids)) ∙ search rules in
    known ∙ ap (λ (accounts : List Account). record before { accounts = accounts }) (none_created before txs none)

pub returns : goal.returns
returns c = λ before txs keeps body is known.
    let after = c.in_ok-accounts.accounts.items in
    let olds : c.into_items.result.items ≡ map (account_after before txs) before.accounts =
    c.into_items.ensures ∙ ap (λ (p : Parts). p.accounts) known in
    let ids = c.created_ids-ids.ensures ∙ is.created.ids in
    let width : length c.items-assets.result.now ≡ assets_of before =
    ap length c.items-assets.ensures ∙ ap (λ (p : Parts). length p.prices) known in
    let permuted : IsPermutation (map (account_after before txs) before.accounts ++ map (fresh (assets_of before))
    (created txs)) after =
    subst (λ (new : List ℕ). IsPermutation (map (account_after before txs) before.accounts
    ++ map (fresh (assets_of before)) new) after) ids
    (subst (λ (xs : List Account). IsPermutation (xs ++ map (fresh (assets_of before)) c.created_ids-ids.result.now) after) olds
    (rw width at c.in_ok-accounts.ensures.all)) in
    let accounts : c.of.result ≡ accounts_after before txs =
    c.of.ensures ∙ accounts_are before txs keeps is.in_range body after permuted c.in_ok-accounts.ensures.by_id in
    let made : Parts → List Account → Parts = λ p entries. record p { accounts = entries } in
    ap (λ (p : Parts). made p c.of.result) known ∙ ap (made (with_known_accounts before txs)) accounts
