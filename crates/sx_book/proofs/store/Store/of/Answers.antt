use Rattle.std.proofs.Common.{◌≡◌, ◌<◌, ◌+◌, ℕ, length, take, Contains, sym, ap, subst, ◌∙◌, arith}
use Rattle.std.proofs.lemmas.List.{length-map}
use Rattle.std.proofs.lemmas.List.Concat.{length-flat_map}
use Rattle.sx_book.specs.Store.{nodes_of}
use Rattle.sx_book.proofs.Building.{absent_next, put_next}
use Rattle.sx_ledger.specs.Body.{put_offer}
use Rattle.sx_ledger.specs.Ledger.{keys}
use Rattle.sx_ledger.specs.Order.{key_of}
use Rattle.sx_book.proofs.store.Store.of.Goals as goal

pub reserve-requires : goal.reserve-requires
reserve-requires c =
    let lists = c.in_ok-store.store.lists.lists in
    omega (
      arith,
      length-map (nodes_of lists) (λ x. x.1),
      length-flat_map (λ xs. xs) lists,
      ap length c.in_ok-store.ensures.empty,
      c.requires.few,
    )

pub put-requires-clause-absent : goal.put-requires-clause-absent
put-requires-clause-absent c =
    subst (λ os. Contains (keys os) (key_of c.offer-item.result) → ⊥) (sym c.loop-offer.invariant.so_far)
    (absent_next c.args.offers.now c.requires.by_key c.loop-offer.offer-index c.offer-item.result c.loop-offer-test.true
    c.offer-item.is)

pub loop-offer-preserved : goal.loop-offer-preserved
loop-offer-preserved c = record {
  sound = c.put.ensures.sound;
  so_far = c.in_ok-put.ensures.ok ∙ ap (put_offer c.offer-item.result) c.loop-offer.invariant.so_far
      ∙ put_next c.args.offers.now c.requires.by_key c.loop-offer.offer-index c.offer-item.result c.loop-offer-test.true
      c.offer-item.is;
}
