use Rattle.std.proofs.Common.{◌++◌, subst, sym, rules}
use Rattle.std.specs.List.Sorted.{IsPermutation, IsSortedBy}
use Rattle.std.proofs.lemmas.List.Sorted.{IsPermutation-append, IsPermutation-trans}
use Rattle.sx_ledger.specs.Body.{tx_before}
use Rattle.sx_outcome.proofs.SortedSides.{sorted_sides}
use Rattle.sx_outcome.proofs.TxOrder.{tx_order}
use Rattle.sx_outcome.proofs.order.+fn-sort_by_halves-fork_mut+arg3+fn-sort_by_halves-fork_mut+arg4+sort_by_halves.Goals as goal

pub returns-clause-moves : goal.returns-clause-moves
returns-clause-moves g t c =
    let front = c.split_at_mut-front.result.0.now in
    let rest = c.split_at_mut-front.result.1.now in
    let one : IsPermutation front c.front-1.given.0 = search rules in
    let other : IsPermutation rest c.rest-1.given.0 = search rules in
    IsPermutation-trans c.args.txs.now c.part-end.new.txs (c.front-1.given.0 ++ c.rest-1.given.0)
    c.part-end.ensures.moves
    (subst (λ txs. IsPermutation txs (c.front-1.given.0 ++ c.rest-1.given.0)) (sym c.split_at_mut-front.ensures.value)
    (IsPermutation-append front c.front-1.given.0 rest c.rest-1.given.0 one other))

pub returns-clause-sorted : goal.returns-clause-sorted
returns-clause-sorted g t c =
    let front = c.split_at_mut-front.result.0.now in
    let rest = c.split_at_mut-front.result.1.now in
    let one : IsPermutation front c.front-1.given.0 × IsSortedBy tx_before c.front-1.given.0 = search rules in
    let other : IsPermutation rest c.rest-1.given.0 × IsSortedBy tx_before c.rest-1.given.0 = search rules in
    sorted_sides tx_before tx_order c.near_middle-middle.result c.part-end.new.txs front rest
    c.front-1.given.0 c.rest-1.given.0 c.part-end.result c.part-end.ensures.front c.part-end.ensures.rest
    c.split_at_mut-front.ensures.value c.split_at_mut-front.ensures.front_len one other
