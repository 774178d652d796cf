-- What a node that is taken out makes of a store.
use Rattle.std.proofs.Common.{◌≡◌, ℕ, zero, suc, ◌+◌, ◌<◌, ◌≤◌, Bool, true, false, List, [], ◌∷◌, ◌++◌, length, map}
use Rattle.std.proofs.Common.{take, drop, set, get_or, Option, Some, None, slice_get, refl, sym, ap, subst, ◌∙◌}
use Rattle.std.proofs.Common.{arith}
use Rattle.std.specs.Prelude.{not}
use Rattle.std.specs.List.{AllByRecursion, Contains, filter, remove}
use Rattle.std.specs.Option.{option_map}
use Rattle.std.specs.Map.{remove_entry}
use Rattle.std.specs.BTreeMap.{IsOrdered, is_at}
use Rattle.std.specs.declared.cmp.Ordering.{Ordering}
use Rattle.std.specs.declared.cmp.Ordering.TheVariants.{Less, Equal, Greater}
use Rattle.std.specs.Ordering.{is_eq}
use Rattle.std.proofs.lemmas.Bool.{false_from_ne_true}
use Rattle.std.proofs.lemmas.List.{length-append}
use Rattle.std.proofs.lemmas.Option.{same_Some}
use Rattle.sx_book.specs.declared.store.Store.{Store}
use Rattle.sx_book.specs.Books.{without}
use Rattle.sx_book.specs.Store.{IsIn, IsSound, entry_of, list_of, nodes_of, offers_in, offers_of}
use Rattle.sx_book.proofs.Flat.{back, cut_at, cut_set, flat, front}
use Rattle.sx_book.proofs.Keys.{Sorted, cmp_same, greater_from, less_from, sorted_around}
use Rattle.sx_book.proofs.Lists.{all_append, all_drop, all_parts, all_take, filter_all}
use Rattle.sx_book.proofs.Located.{Node, all_others, list_is}
use Rattle.sx_book.proofs.Sound.{IsSound-with, listed_at, sorted_by_map}
use Rattle.sx_ledger.specs.declared.key.Key.{Key}
use Rattle.sx_ledger.specs.declared.offer.Offer.{Offer}
use Rattle.sx_ledger.specs.contracts.key.KeyOrd.TheImpl as derived
use Rattle.sx_ledger.specs.Ledger.{keys}
use Rattle.sx_ledger.specs.Order.{key_before, key_cmp, key_of, same_key}
use Rattle.sx_ledger.proofs.KeyOrder.{before_differs, equal_from, same_key_from, same_key_is}
use Rattle.sx_links.specs.Lists.{Lists, StandsAt, list_at, without_node}

-- an offer of another key stays
kept_where : (offer : Offer) (key : Key) → (key_of offer ≡ key → ⊥) → not (same_key (key_of offer) key) ≡ true
kept_where offer key other =
    let differ = false_from_ne_true (same_key (key_of offer) key) (λ e. other (same_key_is (key_of offer) key e)) in
    ap not differ

-- nothing is taken out where no offer has the key
pub without_none : (nodes : List (ℕ × Offer)) (key : Key) → (Contains (keys (offers_in nodes)) key → ⊥)
    → without key (offers_in nodes) ≡ offers_in nodes
without_none nodes key absent = by_parts nodes (all_others nodes key absent)
  where
    by_parts : (xs : List (ℕ × Offer)) → AllByRecursion (λ x. key_of x.1 ≡ key → ⊥) xs
        → without key (offers_in xs) ≡ offers_in xs
    by_parts [] all = refl
    by_parts (x ∷ xs) all = let kept = kept_where x.1 key all.0 in rw kept (ap (λ ys. x.1 ∷ ys) (by_parts xs all.1))

module _ (x : ℕ × Offer) where
  abbrev Ahead : ℕ × Offer → Type 0
  Ahead y = key_before (key_of y.1) (key_of x.1) ≡ true

  abbrev After : ℕ × Offer → Type 0
  After y = key_before (key_of x.1) (key_of y.1) ≡ true

  differs : (y : ℕ × Offer) → Ahead y → key_of y.1 ≡ key_of x.1 → ⊥
  differs y ahead same =
      let no = before_differs (key_of y.1) (key_of x.1) ahead in
      let yes = same_key_from (key_of x.1) (key_of y.1) (sym same) in
      cc

  differs' : (y : ℕ × Offer) → After y → key_of y.1 ≡ key_of x.1 → ⊥
  differs' y after same =
      let no = before_differs (key_of x.1) (key_of y.1) after in
      let yes = same_key_from (key_of y.1) (key_of x.1) same in
      cc

  rest_stays : (ys : List (ℕ × Offer)) → AllByRecursion After ys → without (key_of x.1) (offers_in ys) ≡ offers_in ys
  rest_stays [] after = refl
  rest_stays (y ∷ ys) after =
      let kept = kept_where y.1 (key_of x.1) (differs' y after.0) in
      rw kept (ap (λ zs. y.1 ∷ zs) (rest_stays ys after.1))

  pub without_between : (xs ys : List (ℕ × Offer)) → AllByRecursion Ahead xs → AllByRecursion After ys
      → without (key_of x.1) (offers_in (xs ++ x ∷ ys)) ≡ offers_in (xs ++ ys)
  without_between [] ys ahead after =
      let gone : not (same_key (key_of x.1) (key_of x.1)) ≡ false = ap not (same_key_from (key_of x.1) (key_of x.1)
      refl) in
      rw gone (rest_stays ys after)
  without_between (y ∷ xs) ys ahead after =
      let kept = kept_where y.1 (key_of x.1) (differs y ahead.0) in
      rw kept (ap (λ zs. y.1 ∷ zs) (without_between xs ys ahead.1 after))

  pub removed_between : (xs ys : List (ℕ × Offer)) → AllByRecursion Ahead xs
      → remove_entry (is_at (key_cmp (key_of x.1))) (map entry_of (xs ++ x ∷ ys)) ≡ map entry_of (xs ++ ys)
  removed_between [] ys ahead =
      let equal : is_eq (key_cmp (key_of x.1) (key_of x.1)) ≡ true = ap is_eq
      (equal_from (key_of x.1) (key_of x.1) refl) in
      rw equal refl
  removed_between (y ∷ xs) ys ahead =
      let greater : is_eq (key_cmp (key_of x.1) (key_of y.1)) ≡ false = ap is_eq
      (greater_from (key_of y.1) (key_of x.1) ahead.0) in
      rw greater (ap (λ es. entry_of y ∷ es) (removed_between xs ys ahead.1))

module _ (old new : Store) (sound : IsSound old) (l p : ℕ) (x : ℕ × Offer)
    (here : slice_get (list_at old.lists.lists l) p ≡ Some x)
    (lists : new.lists.lists ≡ set old.lists.lists l (remove (list_at old.lists.lists l) p)) where
  within : l < length old.lists.lists
  within = (list_is old sound l p x here).1

  old_nodes : nodes_of old.lists.lists ≡ front old.lists.lists l p ++ x ∷ back old.lists.lists l (suc p)
  old_nodes = cut_at old.lists.lists l within p x here

  new_nodes : nodes_of new.lists.lists ≡ front old.lists.lists l p ++ back old.lists.lists l (suc p)
  new_nodes = ap nodes_of lists ∙ cut_set old.lists.lists l within p (drop (suc p) (list_at old.lists.lists l))

  sides : AllByRecursion (Ahead x) (front old.lists.lists l p) × AllByRecursion (After x)
      (back old.lists.lists l (suc p))
  sides =
      sorted_around (λ y. key_of y.1) (front old.lists.lists l p) x (back old.lists.lists l (suc p))
      (subst (λ xs. Sorted (map (λ y. key_of y.1) xs)) old_nodes sound.sorted)

  pub taken_offers : offers_of new ≡ without (key_of x.1) (offers_of old)
  taken_offers =
      ap offers_in new_nodes
      ∙ sym (without_between x (front old.lists.lists l p) (back old.lists.lists l (suc p)) sides.0 sides.1)
      ∙ ap (λ xs. without (key_of x.1) (offers_in xs)) (sym old_nodes)

  pub IsSound-take : new.nodes.entries ≡ remove_entry (is_at (derived.ghosts.cmp (key_of x.1))) old.nodes.entries
      → IsOrdered derived.ghosts.cmp new.nodes → IsSound new
  IsSound-take entries ordered =
      let xs = front old.lists.lists l p in
      let ys = back old.lists.lists l (suc p) in
      let found : new.nodes.entries ≡ map entry_of (nodes_of new.lists.lists) =
      entries
      ∙ ap (λ cmp. remove_entry (is_at (cmp (key_of x.1))) old.nodes.entries) cmp_same
      ∙ ap (remove_entry (is_at (key_cmp (key_of x.1)))) (sound.found ∙ ap (map entry_of) old_nodes)
      ∙ removed_between x xs ys sides.0
      ∙ ap (map entry_of) (sym new_nodes) in
      let listed = listed_at old sound l within in
      let had = all_parts (λ y. 1 ≤ y.1.amount) xs (x ∷ ys)
      (subst (AllByRecursion (λ y. 1 ≤ y.1.amount)) old_nodes sound.amounts) in
      let count = length-append xs (x ∷ ys) in
      let counted = length-append xs ys in
      IsSound-with old new l _ sound lists
      (all_append (λ y. IsIn l y.1) (take p (list_at old.lists.lists l)) (drop (suc p) (list_at old.lists.lists l))
      (all_take (λ y. IsIn l y.1) p (list_at old.lists.lists l) listed)
      (all_drop (λ y. IsIn l y.1) (suc p) (list_at old.lists.lists l) listed))
      found
      (sorted_by_map new found ordered)
      (subst (AllByRecursion (λ y. 1 ≤ y.1.amount)) (sym new_nodes)
      (all_append (λ y. 1 ≤ y.1.amount) xs ys had.0 had.1.1))
      (omega (arith, ap length new_nodes, ap length old_nodes, sound.few))

-- ---- the same from what the calls say

module _ (old : Store) (sound : IsSound old) (key : Key) (n : ℕ) (node : Node old key n) (made : Lists Offer)
    (taken : (list place : ℕ) → StandsAt old.lists.lists list place n → made ≡ without_node old.lists list place) where
  abbrev l : ℕ
  l = list_of key.sell key.buy

  abbrev x : ℕ × Offer
  x = (n, node.offer)

  lists_are : made.lists ≡ set old.lists.lists l (remove (list_at old.lists.lists l) node.place)
  lists_are = ap (λ ls. ls.lists) (taken l node.place (ap (option_map (λ y. y.0)) node.here))

  pub offers_taken : offers_in (nodes_of made.lists) ≡ without key (offers_of old)
  offers_taken =
      taken_offers old (record { lists = made; nodes = old.nodes }) sound l node.place x node.here lists_are
      ∙ ap (λ k. without k (offers_of old)) node.keyed

  pub sound_taken : (new : Store) → new.lists ≡ made
      → new.nodes.entries ≡ remove_entry (is_at (derived.ghosts.cmp key)) old.nodes.entries
      → IsOrdered derived.ghosts.cmp new.nodes → IsSound new
  sound_taken new is entries ordered =
      IsSound-take old new sound l node.place x node.here (ap (λ ls. ls.lists) is ∙ lists_are)
      (entries ∙ ap (λ k. remove_entry (is_at (derived.ghosts.cmp k)) old.nodes.entries) (sym node.keyed)) ordered

-- the offer of a node of a list is one of all
pub found_offer : (store : Store) (sound : IsSound store) (l p : ℕ) (x : ℕ × Offer)
    → slice_get (list_at store.lists.lists l) p ≡ Some x → Contains (offers_of store) x.1
found_offer store sound l p x here =
    let within = (list_is store sound l p x here).1 in
    let parts = cut_at store.lists.lists l within p x here in
    subst (λ xs. Contains (offers_in xs) x.1) (sym parts)
    (among (front store.lists.lists l p) (back store.lists.lists l (suc p)))
  where
    among : (xs ys : List (ℕ × Offer)) → Contains (offers_in (xs ++ x ∷ ys)) x.1
    among [] ys = (0, omega arith, refl)
    among (y ∷ xs) ys = let rest = among xs ys in (suc rest.0, omega (arith, rest.1), rest.2)

-- what is answered of a node has its key
pub key_answered : {store : Store} {key : Key} {n : ℕ} (node : Node store key n) {offer : Offer}
    → slice_get (list_at store.lists.lists (list_of key.sell key.buy)) node.place ≡ Some (n, offer) → key_of offer ≡ key
key_answered {store} {key} {n} node {offer} there =
    ap (λ x. key_of x.1) (same_Some (n, offer) (n, node.offer) (sym there ∙ node.here)) ∙ node.keyed
