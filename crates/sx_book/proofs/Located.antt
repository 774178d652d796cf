-- What the map of a store tells of its lists.
use Rattle.std.proofs.Common.{◌≡◌, ℕ, zero, suc, ◌+◌, ◌<◌, Bool, true, false, List, [], ◌∷◌, ◌++◌, length, map}
use Rattle.std.proofs.Common.{get_or, Option, Some, None, IsSome, slice_get, refl, sym, ap, subst, ◌∙◌, arith}
use Rattle.std.specs.List.{AllByRecursion, Contains}
use Rattle.std.specs.Option.{option_map}
use Rattle.std.specs.BTreeMap.{get, is_at, IsOrdered}
use Rattle.std.specs.declared.cmp.Ordering.{Ordering}
use Rattle.std.specs.declared.cmp.Ordering.TheVariants.{Less, Equal, Greater}
use Rattle.std.specs.Ordering.{is_eq}
use Rattle.std.proofs.lemmas.List.{get_or-map}
use Rattle.std.proofs.lemmas.Map.{none_passes_from_lookup}
use Rattle.std.proofs.lemmas.Map.Entries.{btree_map_get_place, place_from_lookup}
use Rattle.std.proofs.lemmas.Option.{slice_get-map, slice_get_within, get_or_from_slice_get}
use Rattle.sx_book.specs.declared.store.Store.{Store}
use Rattle.sx_book.specs.Store.{IsIn, IsSound, entry_of, list_of, nodes_of, offers_in, offers_of}
use Rattle.sx_book.proofs.Flat.{flat, Found, found_in, within_lists}
use Rattle.sx_book.proofs.Keys.{cmp_same}
use Rattle.sx_book.proofs.Lists.{all_at, all_from, all_unmapped}
use Rattle.sx_book.proofs.Placed.{placed_at}
use Rattle.sx_ledger.specs.declared.key.Key.{Key}
use Rattle.sx_ledger.specs.declared.offer.Offer.{Offer}
use Rattle.sx_ledger.specs.contracts.key.KeyOrd.TheImpl as derived
use Rattle.sx_ledger.specs.Ledger.{keys}
use Rattle.sx_ledger.specs.Order.{key_cmp, key_of}
use Rattle.sx_ledger.proofs.KeyOrder.{equal_from, equal_is, key_cmp_total}
use Rattle.sx_links.specs.Lists.{list_at}

-- the node of a key: it is the one at a place of the list of the key's pair
pub record Node (store : Store) (key : Key) (node : ℕ) : Type 0 where
  pub offer : Offer
  pub keyed : key_of offer ≡ key
  pub place : ℕ
  pub here : slice_get (list_at store.lists.lists (list_of key.sell key.buy)) place ≡ Some (node, offer)
  pub within : list_of key.sell key.buy < length store.lists.lists

mapped_some : {A B : Type 0} (f : A → B) (o : Option A) (y : B) → option_map f o ≡ Some y
    → (x : A) × (o ≡ Some x) × (f x ≡ y)
mapped_some f None y is = absurd cc
mapped_some f (Some x) y is = (x, refl, let same = is in cc)

equal_by : (o : Ordering) → is_eq o ≡ true → o ≡ Equal
equal_by Less e = absurd cc
equal_by Equal e = refl
equal_by Greater e = absurd cc

module _ (store : Store) (sound : IsSound store) where
  -- an offer of a list is in the list of its pair
  pub list_is : (l p : ℕ) (x : ℕ × Offer) → slice_get (list_at store.lists.lists l) p ≡ Some x
      → IsIn l x.1 × (l < length store.lists.lists)
  list_is l p x here =
      let lists = store.lists.lists in
      let within = within_lists lists l p x here in
      let same : 0 + l ≡ l = omega arith in (
        subst (λ n. IsIn n x.1) same
            (all_at (λ y. IsIn (0 + l) y.1) (list_at lists l) p x (placed_at 0 lists sound.placed l within) here),
        within,
      )

  -- the entry that the map has at a key is that of a node
  pub entry_at : (key : Key) (node : ℕ) → get key_cmp store.nodes key ≡ Some node
      → (i : ℕ) × (offer : Offer) × (slice_get (nodes_of store.lists.lists) i ≡ Some (node, offer)) ×
      (key_of offer ≡ key)
  entry_at key node found =
      let nodes = nodes_of store.lists.lists in
      let entry = place_from_lookup (is_at (key_cmp key)) store.nodes.entries node found in
      let at : slice_get (map entry_of nodes) entry.0 ≡ Some (entry.1, node) =
      ap (λ es. slice_get es entry.0) (sym sound.found) ∙ entry.2 in
      let same : key ≡ entry.1 = equal_is key entry.1 (equal_by (key_cmp key entry.1) entry.3) in
      let x = mapped_some entry_of (slice_get nodes entry.0) (entry.1, node)
      (sym (slice_get-map entry_of nodes entry.0) ∙ at) in
      (entry.0, x.0.1, x.1 ∙ ap (λ e. Some (e.1, x.0.1)) x.2, ap (λ e. e.0) x.2 ∙ sym same)

  pub node_of : (key : Key) (node : ℕ) → get key_cmp store.nodes key ≡ Some node → Node store key node
  node_of key node found =
      let entry = entry_at key node found in
      let x : ℕ × Offer = (node, entry.1) in
      let spot = found_in store.lists.lists entry.0 x entry.2 in
      let is = list_is spot.list spot.place x spot.here in
      let listed : list_of key.sell key.buy ≡ spot.list = ap (λ k. list_of k.sell k.buy) (sym entry.3) ∙ is.0.number in
      record {
        offer = entry.1;
        keyed = entry.3;
        place = spot.place;
        here = ap (λ l. slice_get (list_at store.lists.lists l) spot.place) listed ∙ spot.here;
        within = subst (λ l. l < length store.lists.lists) (sym listed) is.1;
      }

  -- the map has each offer's key
  pub all_found : IsOrdered key_cmp store.nodes
      → AllByRecursion (λ x. IsSome (get key_cmp store.nodes (key_of x.1))) (nodes_of store.lists.lists)
  all_found ordered =
      all_from (λ x. IsSome (get key_cmp store.nodes (key_of x.1))) (nodes_of store.lists.lists) (λ i x here. (
      let at : slice_get store.nodes.entries i ≡ Some (entry_of x) = ap (λ es. slice_get es i) sound.found
      ∙ slice_get-map entry_of (nodes_of store.lists.lists) i ∙ ap (option_map entry_of) here in
      let has = btree_map_get_place key_cmp_total store.nodes i (key_of x.1) x.0 ordered at in
      rw has refl))

-- an offer at a place makes its key one of the keys
pub has_key_at : (nodes : List (ℕ × Offer)) (i : ℕ) (x : ℕ × Offer) → slice_get nodes i ≡ Some x
    → Contains (keys (offers_in nodes)) (key_of x.1)
has_key_at [] i x here = absurd cc
has_key_at (y ∷ ys) zero x here = (0, omega arith, let same : y ≡ x = cc in ap (λ z. key_of z.1) same)
has_key_at (y ∷ ys) (suc i) x here =
    let rest = has_key_at ys i x here in
    (suc rest.0, omega (arith, rest.1), rest.2)

-- no offer has a key that is not there
pub all_others : (nodes : List (ℕ × Offer)) (key : Key) → (Contains (keys (offers_in nodes)) key → ⊥)
    → AllByRecursion (λ x. key_of x.1 ≡ key → ⊥) nodes
all_others nodes key absent =
    all_from (λ x. key_of x.1 ≡ key → ⊥) nodes
    (λ i x here same. absent (subst (Contains (keys (offers_in nodes))) same (has_key_at nodes i x here)))

none_contains : (nodes : List (ℕ × Offer)) (key : Key)
    → AllByRecursion (λ x. is_eq (key_cmp key (key_of x.1)) ≡ false) nodes → Contains (keys (offers_in nodes)) key → ⊥
none_contains [] key all (k, within, at) = absurd (omega arith)
none_contains (x ∷ xs) key all (zero, within, at) =
    let equal = equal_from key (key_of x.1) (sym at) in
    let not_equal = all.0 in
    cc
none_contains (x ∷ xs) key all (suc k, within, at) = none_contains xs key all.1 (k, omega arith, at)

-- what the map says of a key, by its own comparison
module _ (store : Store) (sound : IsSound store) (key : Key) where
  same_look : get derived.ghosts.cmp store.nodes key ≡ get key_cmp store.nodes key
  same_look = ap (λ cmp. get cmp store.nodes key) cmp_same

  pub node_by : (node : ℕ) → get derived.ghosts.cmp store.nodes key ≡ Some node → Node store key node
  node_by node found = node_of store sound key node (sym same_look ∙ found)

  pub contains_by : (node : ℕ) → get derived.ghosts.cmp store.nodes key ≡ Some node
      → Contains (keys (offers_of store)) key
  contains_by node found =
      let entry = entry_at store sound key node (sym same_look ∙ found) in
      subst (Contains (keys (offers_of store))) entry.3
      (has_key_at (nodes_of store.lists.lists) entry.0 (node, entry.1) entry.2)

  pub contains_some : IsSome (get derived.ghosts.cmp store.nodes key) → Contains (keys (offers_of store)) key
  contains_some some = by_case (get derived.ghosts.cmp store.nodes key) refl some
    where
      by_case : (o : Option ℕ) → get derived.ghosts.cmp store.nodes key ≡ o → IsSome o → Contains
          (keys (offers_of store)) key
      by_case None is some = absurd cc
      by_case (Some node) is some = contains_by node is

  pub absent_by : get derived.ghosts.cmp store.nodes key ≡ None → Contains (keys (offers_of store)) key → ⊥
  absent_by none =
      let all = none_passes_from_lookup (is_at (key_cmp key)) store.nodes.entries (sym same_look ∙ none) in
      none_contains (nodes_of store.lists.lists) key
      (all_unmapped (λ e. is_eq (key_cmp key e.0) ≡ false) entry_of (nodes_of store.lists.lists)
      (subst (AllByRecursion (λ e. is_eq (key_cmp key e.0) ≡ false)) sound.found all))
