-- Where a key belongs in the list of its pair.
use Rattle.std.proofs.Common.{◌≡◌, ℕ, zero, suc, ◌+◌, ◌<◌, Bool, true, false, List, [], ◌∷◌, ◌++◌, length, map, take}
use Rattle.std.proofs.Common.{drop, get_or, Option, Some, None, IsSome, slice_get, refl, sym, ap, subst, ◌∙◌, arith}
use Rattle.std.proofs.Common.{inl, inr}
use Rattle.std.specs.List.{AllByRecursion, Contains}
use Rattle.std.specs.Option.{option_map}
use Rattle.std.specs.BTreeMap.{get, IsOrdered}
use Rattle.std.specs.BTreeMap.Range.{IsRangeOf}
use Rattle.std.specs.declared.cmp.Ordering.TheVariants.{Less}
use Rattle.std.specs.declared.ops.Bound.TheVariants.{Excluded, Unbounded}
use Rattle.std.specs.Ordering.{is_lt}
use Rattle.std.proofs.lemmas.Bool.{cases_Bool, false_from_ne_true}
use Rattle.std.proofs.lemmas.List.{append-nil, append_assoc, take_more}
use Rattle.std.proofs.lemmas.Option.{get_or_from_slice_get, slice_get_within}
use Rattle.sx_book.specs.declared.store.Store.{Store}
use Rattle.sx_book.specs.Store.{Gap, IsIn, IsSound, list_count, list_of, nodes_of, offers_of}
use Rattle.sx_book.proofs.Flat.{ahead, back, beyond, cut, cut_at, flat, front, front_more}
use Rattle.sx_book.proofs.Keys.{Sorted, less_from, not_both, pair_before, same_pair, sorted_around}
use Rattle.sx_book.proofs.Lists.{all_append, all_at, all_from, all_parts, all_weaker}
use Rattle.sx_book.proofs.Located.{Node, all_found, all_others, node_of}
use Rattle.sx_book.proofs.Placed.{IsAhead, IsBeyond, placed_ahead, placed_at, placed_beyond}
use Rattle.sx_ledger.specs.declared.key.Key.{Key}
use Rattle.sx_ledger.specs.declared.offer.Offer.{Offer}
use Rattle.sx_ledger.specs.Ledger.{keys}
use Rattle.sx_ledger.specs.Order.{key_before, key_cmp, key_of}
use Rattle.sx_ledger.proofs.KeyOrder.{before_both, before_or_after}
use Rattle.sx_links.specs.Lists.{list_at}

module _ (store : Store) (sound : IsSound store) (key : Key) (absent : Contains (keys (offers_of store)) key → ⊥)
    (ordered : IsOrdered key_cmp store.nodes) where
  abbrev lists : List (List (ℕ × Offer))
  lists = store.lists.lists

  abbrev l : ℕ
  l = list_of key.sell key.buy

  -- it does not come before the key
  abbrev NotBefore : ℕ × Offer → Type 0
  NotBefore x = key_before (key_of x.1) key ≡ false

  abbrev IsAfterKey : ℕ × Offer → Type 0
  IsAfterKey x = key_before key (key_of x.1) ≡ true

  after_key : (nodes : List (ℕ × Offer)) → AllByRecursion (λ x. key_of x.1 ≡ key → ⊥) nodes
      → AllByRecursion NotBefore nodes → AllByRecursion IsAfterKey nodes
  after_key [] others not_before = tt
  after_key (x ∷ xs) others not_before =
      (before_or_after (key_of x.1) key (λ e. others.0 (sym e)) not_before.0, after_key xs others.1 not_before.1)

  -- in front, where nothing of the list comes before the key
  pub gap_front : l < length lists → key.buy < 32 → AllByRecursion NotBefore (list_at lists l) → Gap lists key None
  gap_front within in_range not_before =
      let none : 0 + l ≡ l = omega arith in
      let others = all_parts (λ x. key_of x.1 ≡ key → ⊥) (front lists l 0) (back lists l 0)
      (subst (AllByRecursion (λ x. key_of x.1 ≡ key → ⊥)) (cut lists l within 0) (all_others (flat lists) key absent))
      in
      let here = all_parts (λ x. key_of x.1 ≡ key → ⊥) (list_at lists l) (beyond lists l) others.1 in
      record {
        place = 0;
        named = refl;
        below = all_append (λ x. key_before (key_of x.1) key ≡ true) (ahead lists l) []
            (all_weaker (λ x. IsAhead (0 + l) x.1) (λ x. key_before (key_of x.1) key ≡ true)
            (λ x is. pair_before (key_of x.1) key is.buy in_range (omega (arith, is.number))) (ahead lists l)
            (placed_ahead 0 lists sound.placed l)) tt;
        above = all_append IsAfterKey (list_at lists l) (beyond lists l)
            (after_key (list_at lists l) here.0 not_before)
            (all_weaker (λ x. IsBeyond (0 + l) x.1) IsAfterKey
            (λ x is. pair_before key (key_of x.1) in_range is.buy (omega (arith, is.number))) (beyond lists l)
            (placed_beyond 0 lists sound.placed l));
      }

  -- each offer of the list is in the map
  all_in_list : l < length lists → AllByRecursion (λ x. IsSome (get key_cmp store.nodes (key_of x.1))) (list_at lists l)
  all_in_list within =
      let P = λ (x : ℕ × Offer). IsSome (get key_cmp store.nodes (key_of x.1)) in
      let all = all_parts P (front lists l 0) (back lists l 0)
      (subst (AllByRecursion P) (cut lists l within 0) (all_found store sound ordered)) in
      (all_parts P (list_at lists l) (beyond lists l) all.1).0

  module _ (range : List (Key × ℕ)) (is : IsRangeOf key_cmp Unbounded (Excluded key) store.nodes range) where
    -- nothing comes before the key
    pub gap_empty : l < length lists → key.buy < 32 → range ≡ [] → Gap lists key None
    gap_empty within in_range empty =
        gap_front within in_range (all_weaker (λ x. IsSome (get key_cmp store.nodes (key_of x.1))) NotBefore
        (λ x some. false_from_ne_true (key_before (key_of x.1) key) (λ before.
        (let none = is.5 empty (key_of x.1) (tt, less_from (key_of x.1) key before) in cc))) (list_at lists l)
        (all_in_list within))

    module _ (last : Key × ℕ) (before : List (Key × ℕ)) (ends : range ≡ before ++ last ∷ []) where
      last_before : key_before last.0 key ≡ true
      last_before = ap is_lt (is.3 last before ends).0.1

      -- no key is between the last one and this one
      greatest : (x : ℕ × Offer) → IsSome (get key_cmp store.nodes (key_of x.1)) → key_before (key_of x.1) key ≡ true
          → key_before last.0 (key_of x.1) ≡ false
      greatest x some lt = is.4 last before ends (key_of x.1) (tt, less_from (key_of x.1) key lt) some

      -- the last one before the key is of another pair
      pub gap_other : l < length lists → key.buy < 32 → ((last.0.sell ≡ key.sell) × (last.0.buy ≡ key.buy) → ⊥)
          → Gap lists key None
      gap_other within in_range other =
          gap_front within in_range (all_from NotBefore (list_at lists l) (λ i x here.
          (let placed = all_at (λ y. IsIn (0 + l) y.1) (list_at lists l) i x (placed_at 0 lists sound.placed l within)
          here in
          let sold : x.1.sell ≡ key.sell = omega (arith, placed.number, placed.buy) in
          let bought : x.1.buy ≡ key.buy = omega (arith, placed.number, placed.buy) in
          let some = all_at (λ y. IsSome (get key_cmp store.nodes (key_of y.1))) (list_at lists l) i x
          (all_in_list within) here in
          false_from_ne_true (key_before (key_of x.1) key)
          (λ lt. other (same_pair (key_of x.1) last.0 key sold bought (greatest x some lt) last_before)))))

      -- the last one before the key is of its pair
      pub gap_after : last.0.sell ≡ key.sell → last.0.buy ≡ key.buy → Gap lists key (Some last.1)
      gap_after sold bought =
          let node = node_of store sound last.0 last.1 (is.3 last before ends).1 in
          let x : ℕ × Offer = (last.1, node.offer) in
          let p = node.place in
          let same : list_of last.0.sell last.0.buy ≡ l = omega arith in
          let here : slice_get (list_at lists l) p ≡ Some x = ap (λ n. slice_get (list_at lists n) p) (sym same) ∙
          node.here in
          let within : l < length lists = subst (λ n. n < length lists) same node.within in
          let parts = cut_at lists l within p x here in
          let keyed : key_of x.1 ≡ last.0 = node.keyed in
          let sides = sorted_around (λ y. key_of y.1) (front lists l p) x (back lists l (suc p))
          (subst (λ xs. Sorted (map (λ y. key_of y.1) xs)) parts sound.sorted) in
          let first : key_before (key_of x.1) key ≡ true = ap (λ k. key_before k key) keyed ∙ last_before in
          let some = all_parts (λ y. IsSome (get key_cmp store.nodes (key_of y.1))) (front lists l p)
          (x ∷ back lists l (suc p))
          (subst (AllByRecursion (λ y. IsSome (get key_cmp store.nodes (key_of y.1)))) parts
          (all_found store sound ordered)) in
          let other = all_parts (λ y. key_of y.1 ≡ key → ⊥) (front lists l p) (x ∷ back lists l (suc p))
          (subst (AllByRecursion (λ y. key_of y.1 ≡ key → ⊥)) parts (all_others (flat lists) key absent)) in
          let next : suc p ≡ p + 1 = omega arith in
          record {
            place = p + 1;
            named = (p, refl, ap (option_map (λ y. y.0)) here);
            below = subst (AllByRecursion (λ y. key_before (key_of y.1) key ≡ true))
                (sym (front_more lists l within p x here))
                (all_append (λ y. key_before (key_of y.1) key ≡ true) (front lists l p) (x ∷ [])
                (all_weaker (λ y. key_before (key_of y.1) (key_of x.1) ≡ true) (λ y. key_before (key_of y.1) key ≡ true)
                (λ y lt. before_both (key_of y.1) (key_of x.1) key lt first) (front lists l p) sides.0) (first, tt));
            above = subst (λ n. AllByRecursion IsAfterKey (back lists l n)) next
                (all_from IsAfterKey (back lists l (suc p))
                (λ i y at.
                (let after = all_at (λ z. key_before (key_of x.1) (key_of z.1) ≡ true) (back lists l (suc p)) i y
                sides.1 at in
                let has = all_at (λ z. IsSome (get key_cmp store.nodes (key_of z.1))) (back lists l (suc p)) i y
                some.1.1 at in
                let differs = all_at (λ z. key_of z.1 ≡ key → ⊥) (back lists l (suc p)) i y other.1.1 at in
                let after' : key_before last.0 (key_of y.1) ≡ true = ap (λ k. key_before k (key_of y.1)) (sym keyed) ∙
                after in
                before_or_after (key_of y.1) key (λ e. differs (sym e))
                (false_from_ne_true (key_before (key_of y.1) key) (λ lt. (let no = greatest y has lt in cc))))));
          }
