use Rattle.std.proofs.Common.{◌<◌, ◌≡◌, Bool, get_or, length, ap, sym, ◌∙◌, rules, arith}
use Rattle.std.proofs.lemmas.List.{get_or_default}
use Rattle.std.proofs.lemmas.List.Sorted.{IsPermutation-trans}
use Rattle.sx_ledger.specs.Body.{tx_before}
use Rattle.sx_tx.specs.declared.tx.Tx.{Tx}
use Rattle.sx_outcome.proofs.PartedLists.{one_more}
use Rattle.sx_outcome.proofs.order.part.Goals as goal

pub loop-place-preserved : goal.loop-place-preserved
loop-place-preserved c =
    let holds = c.loop-place.invariant in
    let txs = c.loop-place.txs in
    let place = c.loop-place.place in
    let goes : Tx → Bool = λ tx. tx_before tx c.args.by.now in
    let within : place < length txs = search (rules, arith) in
    let answer : (d : Tx) → goes (get_or txs place d) ≡ c.is_lt-goes_before.result =
    λ d. ap goes (get_or_default txs place d c.index-txs-place.result within)
    ∙ sym (c.is_lt-goes_before.ensures ∙ c.order.ensures) in
    let parted = one_more goes txs c.swap.new.self c.loop-place.end place holds.2 within c.swap.ensures.after
    (holds.3, holds.4) c.is_lt-goes_before.result answer in (
      IsPermutation-trans c.args.txs.now txs c.swap.new.self holds.0 c.swap.ensures.permutation,
      c.swap.ensures.len ∙ holds.1,
      search (rules, arith),
      parted.0,
      parted.1,
    )
