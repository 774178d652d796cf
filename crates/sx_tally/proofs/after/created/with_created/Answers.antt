use Rattle.std.proofs.Common.{◌≡◌, ◌++◌, ◌-◌, ◌+◌, ℕ, List, length, map, replicate, take}
use Rattle.std.proofs.Common.{ap, subst, sym, ◌∙◌, rules, arith}
use Rattle.std.specs.List.Sorted.{IsPermutation}
use Rattle.std.proofs.lemmas.List.{length-append, length-map, length-replicate, take_at}
use Rattle.std.proofs.lemmas.List.Sorted.{IsNonDecreasingBy-from_sort_by_key, IsPermutation-append_right}
use Rattle.std.proofs.lemmas.List.Sorted.{IsPermutation-map, IsPermutation-trans, length_permutation}
use Rattle.sx_tally.specs.Accounts.{fresh}
use Rattle.sx_tally.proofs.after.created.with_created.Goals as goal
use Rattle.sx_ledger.specs.declared.account.Account.{Account}

pub returns-clause-all : goal.returns-clause-all
returns-clause-all c =
    let make : ℕ → Account = fresh c.args.assets in
    let known : List Account = c.args.accounts.items in
    let given : List ℕ = c.args.ids.now in
    let ids : List ℕ = c.sort_unstable.new.self.items in
    let rows : List Account = c.push_free.new.accounts.items in
    let sorted : IsPermutation given ids = search rules in
    let pushed : rows ≡ known ++ replicate (length ids) (fresh 0 0) = search rules in
    let count : length rows ≡ length known + length ids =
    ap length pushed ∙ length-append known (replicate (length ids) (fresh 0 0))
    ∙ ap (λ (n : ℕ). length known + n) (length-replicate (length ids) (fresh 0 0)) in
    let front : take (length rows - length ids) rows ≡ known =
    ap (take (length rows - length ids)) pushed
    ∙ take_at known (replicate (length ids) (fresh 0 0)) (length rows - length ids) (omega arith) in
    let after : List Account = c.merge_new.new.accounts in
    let filled : IsPermutation (take (length rows - length ids) rows ++ map make ids) after = search rules in
    let merged : IsPermutation (known ++ map make ids) after =
    subst (λ (xs : List Account). IsPermutation (xs ++ map make ids) after) front filled in
    let as_many : length after ≡ c.push_free.new.accounts.len =
    length_permutation (known ++ map make ids) after merged ∙ length-append known (map make ids)
    ∙ ap (λ (n : ℕ). length known + n) (length-map ids make) ∙ sym count
    ∙ ap length (sym c.deref_mut.ensures.value) ∙ c.deref_mut.ensures.len in
    let in_order : IsPermutation after c.sort_by_key.new.self.items =
    subst (λ (xs : List Account). IsPermutation xs c.sort_by_key.new.self.items)
    (take_at after _ c.push_free.new.accounts.len as_many) c.sort_by_key.ensures.permutation in
    IsPermutation-trans _ _ _
    (IsPermutation-append_right known (map make given) (map make ids) (IsPermutation-map make given ids sorted))
    (IsPermutation-trans (known ++ map make ids) after c.sort_by_key.new.self.items merged in_order)

pub returns-clause-by_id : goal.returns-clause-by_id
returns-clause-by_id c =
    IsNonDecreasingBy-from_sort_by_key (λ (account : Account). account.id.0) _ c.in_ok-sort_by_key.ensures.sorted
    (λ a r q k. search rules)
