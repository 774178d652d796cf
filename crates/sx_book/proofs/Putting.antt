-- What an offer that is put at its place makes of a store.
use Rattle.std.proofs.Common.{◌≡◌, ℕ, zero, suc, ◌+◌, ◌<◌, ◌≤◌, Bool, true, false, List, [], ◌∷◌, ◌++◌, length, map}
use Rattle.std.proofs.Common.{take, drop, set, get_or, Option, Some, None, slice_get, refl, sym, ap, subst, ◌∙◌}
use Rattle.std.proofs.Common.{arith}
use Rattle.std.specs.List.{AllByRecursion, insert}
use Rattle.std.specs.List.Sorted.{IsStrictlySortedBy}
use Rattle.std.specs.BTreeMap.{IsOrdered, insert_entry}
use Rattle.std.specs.declared.cmp.Ordering.TheVariants.{Less, Greater}
use Rattle.std.proofs.lemmas.List.{length-append, length-map}
use Rattle.sx_book.specs.declared.store.Store.{Store}
use Rattle.sx_book.specs.Books.{most_offers}
use Rattle.sx_book.specs.Store.{ArePlaced, Gap, IsAfter, IsIn, IsSound, entry_of, list_count, list_of, nodes_of}
use Rattle.sx_book.specs.Store.{offers_in, offers_of}
use Rattle.sx_book.proofs.Flat.{back, beyond, cut, cut_set, flat, front}
use Rattle.sx_book.proofs.Keys.{cmp_same, greater_from, less_from, not_back}
use Rattle.sx_book.proofs.Lists.{all_append, all_drop, all_parts, all_take}
use Rattle.sx_book.proofs.Sound.{IsSound-with, listed_at, sorted_by_map}
use Rattle.sx_ledger.specs.declared.key.Key.{Key}
use Rattle.sx_ledger.specs.declared.offer.Offer.{Offer}
use Rattle.sx_ledger.specs.contracts.key.KeyOrd.TheImpl as derived
use Rattle.sx_ledger.specs.Body.{put_offer}
use Rattle.sx_ledger.specs.Order.{key_before, key_cmp, key_of}
use Rattle.sx_links.specs.Lists.{Lists, StandsAt, list_at, with_node}

module _ (n : ℕ) (new : Offer) where
  abbrev Ahead : ℕ × Offer → Type 0
  Ahead x = key_before (key_of x.1) (key_of new) ≡ true

  abbrev After : ℕ × Offer → Type 0
  After x = key_before (key_of new) (key_of x.1) ≡ true

  pub put_between : (xs ys : List (ℕ × Offer)) → AllByRecursion Ahead xs → AllByRecursion After ys
      → put_offer new (offers_in (xs ++ ys)) ≡ offers_in (xs ++ (n, new) ∷ ys)
  put_between [] [] ahead after = refl
  put_between [] (y ∷ ys) ahead after = rw after.0 refl
  put_between (x ∷ xs) ys ahead after =
      let later = not_back (key_of x.1) (key_of new) ahead.0 in
      rw later (ap (λ rest. x.1 ∷ rest) (put_between xs ys ahead.1 after))

  pub entry_between : (xs ys : List (ℕ × Offer)) → AllByRecursion Ahead xs → AllByRecursion After ys
      → insert_entry key_cmp (map entry_of (xs ++ ys)) (key_of new) n ≡ map entry_of (xs ++ (n, new) ∷ ys)
  entry_between [] [] ahead after = refl
  entry_between [] (y ∷ ys) ahead after =
      let less = less_from (key_of new) (key_of y.1) after.0 in
      rw less refl
  entry_between (x ∷ xs) ys ahead after =
      let greater = greater_from (key_of x.1) (key_of new) ahead.0 in
      rw greater (ap (λ rest. entry_of x ∷ rest) (entry_between xs ys ahead.1 after))

module _ (old new : Store) (sound : IsSound old) (offer : Offer) (node : ℕ) (after : Option ℕ)
    (gap : Gap old.lists.lists (key_of offer) after) (within : list_of offer.sell offer.buy < length old.lists.lists)
    (in_range : offer.buy < 32)
    (lists : new.lists.lists ≡ set old.lists.lists (list_of offer.sell offer.buy)
    (insert (list_at old.lists.lists (list_of offer.sell offer.buy)) gap.place (node, offer))) where
  abbrev l : ℕ
  l = list_of offer.sell offer.buy

  put_nodes : nodes_of new.lists.lists
      ≡ front old.lists.lists l gap.place ++ (node, offer) ∷ back old.lists.lists l gap.place
  put_nodes =
      ap nodes_of lists
      ∙ cut_set old.lists.lists l within gap.place ((node, offer) ∷ drop gap.place (list_at old.lists.lists l))

  old_nodes : nodes_of old.lists.lists ≡ front old.lists.lists l gap.place ++ back old.lists.lists l gap.place
  old_nodes = cut old.lists.lists l within gap.place

  pub put_offers_are : offers_of new ≡ put_offer offer (offers_of old)
  put_offers_are =
      ap offers_in put_nodes
      ∙ sym (put_between node offer (front old.lists.lists l gap.place) (back old.lists.lists l gap.place) gap.below
      gap.above)
      ∙ ap (λ xs. put_offer offer (offers_in xs)) (sym old_nodes)

  pub IsSound-put : new.nodes.entries ≡ insert_entry derived.ghosts.cmp old.nodes.entries (key_of offer) node
      → IsOrdered derived.ghosts.cmp new.nodes → 1 ≤ offer.amount → length (offers_of old) < most_offers → IsSound new
  IsSound-put entries ordered units few =
      let xs = front old.lists.lists l gap.place in
      let ys = back old.lists.lists l gap.place in
      let found : new.nodes.entries ≡ map entry_of (nodes_of new.lists.lists) =
      entries
      ∙ ap (λ cmp. insert_entry cmp old.nodes.entries (key_of offer) node) cmp_same
      ∙ ap (λ es. insert_entry key_cmp es (key_of offer) node) (sound.found ∙ ap (map entry_of) old_nodes)
      ∙ entry_between node offer xs ys gap.below gap.above
      ∙ ap (map entry_of) (sym put_nodes) in
      let listed = listed_at old sound l within in
      let here : IsIn l offer = record { number = refl; buy = in_range } in
      let had = all_parts (λ x. 1 ≤ x.1.amount) xs ys
      (subst (AllByRecursion (λ x. 1 ≤ x.1.amount)) old_nodes sound.amounts) in
      let count = length-append xs ((node, offer) ∷ ys) in
      let counted = length-append xs ys in
      let fewer : length (nodes_of old.lists.lists) < most_offers = subst (λ k. k < most_offers)
      (length-map (nodes_of old.lists.lists) (λ x. x.1)) few in
      IsSound-with old new l _ sound lists
      (all_append (λ x. IsIn l x.1) (take gap.place (list_at old.lists.lists l))
      ((node, offer) ∷ drop gap.place (list_at old.lists.lists l))
      (all_take (λ x. IsIn l x.1) gap.place (list_at old.lists.lists l) listed)
      (here, all_drop (λ x. IsIn l x.1) gap.place (list_at old.lists.lists l) listed))
      found
      (sorted_by_map new found ordered)
      (subst (AllByRecursion (λ x. 1 ≤ x.1.amount)) (sym put_nodes)
      (all_append (λ x. 1 ≤ x.1.amount) xs ((node, offer) ∷ ys) had.0 (units, had.1)))
      (omega (arith, ap length put_nodes, ap length old_nodes))

-- ---- the same from what the calls say

pushed : (old new : Lists Offer) (list : ℕ) (after : Option ℕ) (x : ℕ × Offer)
    → (after ≡ None → new ≡ with_node old list 0 x)
    → ((n place : ℕ) → after ≡ Some n → StandsAt old.lists list place n → new ≡ with_node old list (place + 1) x)
    → (place : ℕ) → IsAfter (list_at old.lists list) after place → new ≡ with_node old list place x
pushed old new list None x first later place is = first refl ∙ ap (λ p. with_node old list p x) (sym is)
pushed old new list (Some n) x first later place is =
    later n is.0 refl is.2 ∙ ap (λ p. with_node old list p x) (sym is.1)

module _ (old : Store) (reserved made : Lists Offer) (offer : Offer) (key : Key) (list node : ℕ) (after : Option ℕ)
    (sound : IsSound old) (same : reserved.lists ≡ old.lists.lists) (keyed : key ≡ key_of offer)
    (listed : list ≡ list_of offer.sell offer.buy) (few_lists : list < list_count) (in_range : offer.buy < 32)
    (gap : Gap reserved.lists key after) (first : after ≡ None → made ≡ with_node reserved list 0 (node, offer))
    (later : (n place : ℕ) → after ≡ Some n → StandsAt reserved.lists list place n
    → made ≡ with_node reserved list (place + 1) (node, offer)) where
  gap_is : Gap old.lists.lists (key_of offer) after
  gap_is = subst (λ k. Gap old.lists.lists k after) keyed (subst (λ ls. Gap ls key after) same gap)

  within : list_of offer.sell offer.buy < length old.lists.lists
  within = omega (arith, sound.count)

  lists_are : made.lists ≡ set old.lists.lists (list_of offer.sell offer.buy)
      (insert (list_at old.lists.lists (list_of offer.sell offer.buy)) gap_is.place (node, offer))
  lists_are =
      let l = list_of offer.sell offer.buy in
      let named : IsAfter (list_at reserved.lists l) after gap_is.place =
      subst (λ ls. IsAfter (list_at ls l) after gap_is.place) (sym same) gap_is.named in
      let stands : IsAfter (list_at reserved.lists list) after gap_is.place =
      subst (λ n. IsAfter (list_at reserved.lists n) after gap_is.place) (sym listed) named in
      ap (λ ls. ls.lists) (pushed reserved made list after (node, offer) first later gap_is.place stands)
      ∙ ap (λ n. set reserved.lists n (insert (list_at reserved.lists n) gap_is.place (node, offer))) listed
      ∙ ap (λ ls. set ls l (insert (list_at ls l) gap_is.place (node, offer))) same

  pub offers_put : offers_in (nodes_of made.lists) ≡ put_offer offer (offers_of old)
  offers_put =
      put_offers_are old (record { lists = made; nodes = old.nodes }) sound offer node after gap_is within in_range
      lists_are

  pub sound_put : (new : Store) → new.lists ≡ made
      → new.nodes.entries ≡ insert_entry derived.ghosts.cmp old.nodes.entries key node
      → IsOrdered derived.ghosts.cmp new.nodes → 1 ≤ offer.amount → length (offers_of old) < most_offers → IsSound new
  sound_put new is entries ordered units few =
      IsSound-put old new sound offer node after gap_is within in_range (ap (λ ls. ls.lists) is ∙ lists_are)
      (entries ∙ ap (λ k. insert_entry derived.ghosts.cmp old.nodes.entries k node) keyed) ordered units few

-- a store with the same lists and the same map
pub IsSound-moved : (old new : Store) → new.lists.lists ≡ old.lists.lists → new.nodes.entries ≡ old.nodes.entries
    → IsSound old → IsSound new
IsSound-moved old new lists entries sound = record {
  count = ap length lists ∙ sound.count;
  placed = subst (ArePlaced 0) (sym lists) sound.placed;
  sorted = subst (λ ls. IsStrictlySortedBy key_cmp (map (λ x. key_of x.1) (nodes_of ls))) (sym lists) sound.sorted;
  found = entries ∙ sound.found ∙ ap (λ ls. map entry_of (nodes_of ls)) (sym lists);
  amounts = subst (λ ls. AllByRecursion (λ x. 1 ≤ x.1.amount) (nodes_of ls)) (sym lists) sound.amounts;
  few = subst (λ ls. length (nodes_of ls) ≤ most_offers) (sym lists) sound.few;
}
