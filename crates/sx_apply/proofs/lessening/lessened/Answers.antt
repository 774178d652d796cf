use Rattle.std.proofs.Common.{◌≡◌, ℕ, ◌+◌, ◌-◌, ◌<◌, ltb, List, [], ◌∷◌, ◌++◌, drop, length, set, take, Vec, Global}
use Rattle.std.proofs.Common.{eqb, true}
use Rattle.std.proofs.Common.{sym, ap, ap₂, subst, ◌∙◌, arith, rules}
use Rattle.std.proofs.lemmas.Bool.{eqb-true}
use Rattle.std.proofs.lemmas.List.{append-nil, length-set, nil_from_length}
use Rattle.sx_apply.proofs.OffersLeft.{AllWithin, after_within, all_left, fills_next, front_put, left_over}
use Rattle.sx_apply.proofs.OffersLeft.{left_over_more}
use Rattle.sx_apply.proofs.OffersLeft.{next_within, none_left, rest_put, rest_too, some_left, there_too, when_none}
use Rattle.sx_apply.proofs.OffersLeft.{when_some}
use Rattle.sx_apply.proofs.lessening.lessened.Goals as goal
use Rattle.sx_apply.proofs.lessening.lessened.Goals.{in-Some, in_default}
use Rattle.sx_ledger.specs.declared.offer.Offer.{Offer}

pub left_of-requires : goal.left_of-requires
left_of-requires c =
    let inv = c.loop-place.invariant in
    let whole = c.args.offers.items in
    let lt : c.loop-place.place < length whole = search rules in
    let there = there_too whole c.loop-place.offers.items c.loop-place.kept c.loop-place.place c.index.result.now
    inv.long inv.rest lt c.index.ensures in
    let within = next_within whole c.loop-place.left.now c.loop-place.place c.index.result.now there inv.gives in
    omega (arith, c.next_given-gives.ensures.gives)

pub loop-place-preserved : goal.loop-place-preserved
loop-place-preserved c =
    let inv = c.loop-place.invariant in
    let whole = c.args.offers.items in
    let current = c.loop-place.offers.items in
    let place = c.loop-place.place in
    let kept = c.loop-place.kept in
    let o = c.index.result.now in
    let units = c.next_given-gives.result.0 in
    let next = c.next_given-gives.ensures in
    let lt : place < length whole = search rules in
    let there = there_too whole current kept place o inv.long inv.rest lt c.index.ensures in
    let within : AllWithin whole c.next_given-gives.result.1.now =
    subst (AllWithin whole) (sym next.after) (after_within whole c.loop-place.left.now place inv.gives) in
    let left = c.loop-place.left.now in
    elim c.match-left_of.branch [
      | in-Some w ↦
          let y = w.in-Some.offer in
          let items : c.match-left_of.offers.items ≡ set current kept y =
          ap (λ (v : Vec Offer Global). v.items) w.offers-is in
          let made = when_some (ltb 0 (o.amount - units)) (record o { amount = o.amount - units }) y
          (sym c.left_of.ensures ∙ w.in-Some.is) in
          record {
            behind = omega (arith, w.kept-is, inv.behind);
            long = ap length items ∙ length-set current kept y ∙ inv.long;
            rest = ap (drop (place + 1)) items ∙
                rest_put whole current kept place o inv.long inv.rest lt c.index.ensures y inv.behind;
            gives = within;
            traded =
                λ prices flow is. let t = inv.traded prices flow is in (
                  ap₂ (λ (n : ℕ) (xs : List Offer). take n xs) w.kept-is items
                      ∙ front_put whole current kept place o inv.long inv.rest lt c.index.ensures y inv.behind
                      ∙ ap₂ (λ (xs ys : List Offer). xs ++ ys) t.0
                      (sym (some_left prices flow whole place o there left t.1 units next.gives made.0 ∙
                      ap (λ (z : Offer). z ∷ []) made.1))
                      ∙ sym (left_over_more prices flow whole place o there),
                  next.after ∙ fills_next prices flow whole place o there left t.1,
                );
          }
      | in_default w ↦
          let items : c.match-left_of.offers.items ≡ current = ap (λ (v : Vec Offer Global). v.items) w.offers-is in
          let none = when_none (ltb 0 (o.amount - units)) (record o { amount = o.amount - units })
          (sym c.left_of.ensures ∙ w.in_default.is) in
          record {
            behind = omega (arith, w.kept-is, inv.behind);
            long = ap length items ∙ inv.long;
            rest = ap (drop (place + 1)) items ∙
                rest_too whole current kept place o inv.long inv.rest lt c.index.ensures;
            gives = within;
            traded =
                λ prices flow is. let t = inv.traded prices flow is in (
                  ap₂ (λ (n : ℕ) (xs : List Offer). take n xs) w.kept-is items ∙ t.0
                      ∙ sym (left_over_more prices flow whole place o there
                      ∙ ap (λ (xs : List Offer). left_over prices flow whole (take place whole) ++ xs)
                      (none_left prices flow whole place o there left t.1 units next.gives none)
                      ∙ append-nil (left_over prices flow whole (take place whole))),
                  next.after ∙ fills_next prices flow whole place o there left t.1,
                );
          }
    ]

pub returns-then-is_empty : goal.returns-then-is_empty
returns-then-is_empty c prices flow is =
    let counted : eqb (length c.args.fills.now) 0 ≡ true = sym c.is_empty.ensures ∙ c.if-is_empty.true in
    let none : c.args.fills.now ≡ [] =
    nil_from_length c.args.fills.now (eqb-true (length c.args.fills.now) 0 counted) in
    sym (all_left prices flow c.args.offers.items 0 c.args.offers.items (sym none ∙ is) c.requires.some)
