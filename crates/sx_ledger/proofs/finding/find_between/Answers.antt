use Rattle.std.proofs.Common.{rules}
use Rattle.std.proofs.lemmas.List.Sorted.{answers_always}
use Rattle.sx_ledger.specs.Order.{key_of}
use Rattle.sx_ledger.proofs.KeysBetween.{searched_between}
use Rattle.sx_ledger.proofs.finding.find_between.Goals as goal

-- the closure gives an offer's key
pub returns-in-Ok-clause-found : goal.returns-in-Ok-clause-found
returns-in-Ok-clause-found c =
    let facts = c.binary_search_by_key.ensures in
    let by_key = facts.position key_of (answers_always _ _ _ (λ f a r g called. search rules)) in
    let both = searched_between c.args.offers.now c.requires.by_key c.args.key.now c.args.begin c.args.end
    c.binary_search_by_key.result facts.bound by_key in
    (rw c.in-Ok.is at both).0

pub returns-in-Err-clause-absent : goal.returns-in-Err-clause-absent
returns-in-Err-clause-absent c =
    let facts = c.binary_search_by_key.ensures in
    let by_key = facts.position key_of (answers_always _ _ _ (λ f a r g called. search rules)) in
    let both = searched_between c.args.offers.now c.requires.by_key c.args.key.now c.args.begin c.args.end
    c.binary_search_by_key.result facts.bound by_key in
    (rw c.in-Err.is at both).1
