use Rattle.std.proofs.Common.{rules}
use Rattle.std.proofs.lemmas.List.Sorted.{answers_always}
use Rattle.sx_ledger.proofs.SearchById.{searched_ok}
use Rattle.sx_ledger.proofs.finding.find_account.Goals as goal

-- the closure gives an account's id
pub returns-clause-found : goal.returns-clause-found
returns-clause-found c =
    let facts = c.binary_search_by_key.ensures in
    let by_id = facts.position (λ account. account.id.0) (answers_always _ _ _ (λ f a r g called. search rules)) in
    (searched_ok c.args.accounts.now c.requires c.args.id.0 c.binary_search_by_key.result c.ok.result
    c.ok.ensures.value facts.bound by_id).0

pub returns-clause-absent : goal.returns-clause-absent
returns-clause-absent c =
    let facts = c.binary_search_by_key.ensures in
    let by_id = facts.position (λ account. account.id.0) (answers_always _ _ _ (λ f a r g called. search rules)) in
    (searched_ok c.args.accounts.now c.requires c.args.id.0 c.binary_search_by_key.result c.ok.result
    c.ok.ensures.value facts.bound by_id).1
