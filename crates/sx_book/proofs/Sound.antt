-- What keeps a store sound.
use Rattle.std.proofs.Common.{◌≡◌, ◌≢◌, ℕ, zero, suc, ◌+◌, ◌*◌, ◌<◌, ◌≤◌, Bool, true, false, List, [], ◌∷◌, ◌++◌}
use Rattle.std.proofs.Common.{length, map, take, drop, set, get_or, replicate, Option, Some, None, slice_get, refl}
use Rattle.std.proofs.Common.{sym, ap, subst, ◌∙◌, arith}
use Rattle.std.specs.List.{AllByRecursion, All, Contains}
use Rattle.std.specs.List.Sorted.{IsStrictlySortedBy}
use Rattle.std.specs.Map.{keys_of}
use Rattle.std.specs.BTreeMap.{BTreeMap, IsOrdered}
use Rattle.std.proofs.lemmas.List.{map-append, length-replicate, length-set}
use Rattle.sx_book.specs.declared.store.Store.{Store}
use Rattle.sx_book.specs.Books.{most_offers}
use Rattle.sx_book.specs.Store.{ArePlaced, IsIn, IsSound, entry_of, list_count, list_of, nodes_of, offers_in, offers_of}
use Rattle.sx_book.proofs.Flat.{flat}
use Rattle.sx_book.proofs.Keys.{cmp_same, Sorted}
use Rattle.sx_book.proofs.Placed.{flat_empty, placed_at, placed_empty, placed_set}
use Rattle.sx_ledger.specs.declared.key.Key.{Key}
use Rattle.sx_ledger.specs.declared.offer.Offer.{Offer}
use Rattle.sx_ledger.specs.contracts.key.KeyOrd.TheImpl as derived
use Rattle.sx_ledger.specs.Order.{key_before, key_cmp, key_of}
use Rattle.sx_links.specs.Lists.{list_at}

pub keys_in : (nodes : List (ℕ × Offer)) → keys_of (map entry_of nodes) ≡ map (λ x. key_of x.1) nodes
keys_in [] = refl
keys_in (x ∷ xs) = ap (λ ks. key_of x.1 ∷ ks) (keys_in xs)

-- the order of the map is that of the offers
pub sorted_by_map : (store : Store) → store.nodes.entries ≡ map entry_of (nodes_of store.lists.lists)
    → IsOrdered derived.ghosts.cmp store.nodes → Sorted (map (λ x. key_of x.1) (nodes_of store.lists.lists))
sorted_by_map store found ordered =
    subst Sorted (ap keys_of found ∙ keys_in (nodes_of store.lists.lists))
    (subst (λ cmp. IsStrictlySortedBy cmp (keys_of store.nodes.entries)) cmp_same ordered)

-- a store without offers
pub IsSound-new : (store : Store) (count : ℕ) → count ≡ list_count → store.lists.lists ≡ replicate count []
    → store.nodes.entries ≡ [] → IsSound store
unfolding IsStrictlySortedBy
IsSound-new store count all lists entries =
    let nodes : nodes_of store.lists.lists ≡ [] = ap nodes_of lists ∙ flat_empty count in
    record {
      count = ap length lists ∙ length-replicate count [] ∙ all;
      placed = subst (ArePlaced 0) (sym lists) (placed_empty 0 count);
      sorted = subst (λ xs. Sorted (map (λ x. key_of x.1) xs)) (sym nodes) tt;
      found = entries ∙ ap (map entry_of) (sym nodes);
      amounts = subst (AllByRecursion (λ x. 1 ≤ x.1.amount)) (sym nodes) tt;
      few = rw nodes (omega arith);
    }

-- ---- one list of a sound store has other nodes

pub IsSound-with : (old new : Store) (l : ℕ) (ys : List (ℕ × Offer)) → IsSound old
    → new.lists.lists ≡ set old.lists.lists l ys → AllByRecursion (λ x. IsIn l x.1) ys
    → new.nodes.entries ≡ map entry_of (nodes_of new.lists.lists)
    → Sorted (map (λ x. key_of x.1) (nodes_of new.lists.lists))
    → AllByRecursion (λ x. 1 ≤ x.1.amount) (nodes_of new.lists.lists) → length (nodes_of new.lists.lists) ≤ most_offers
    → IsSound new
IsSound-with old new l ys sound lists placed found sorted amounts few =
    let none : l ≡ 0 + l = omega arith in
    record {
      count = ap length lists ∙ length-set old.lists.lists l ys ∙ sound.count;
      placed = subst (ArePlaced 0) (sym lists) (placed_set 0 old.lists.lists sound.placed l ys
          (subst (λ n. AllByRecursion (λ x. IsIn n x.1) ys) none placed));
      sorted = sorted;
      found = found;
      amounts = amounts;
      few = few;
    }

-- the nodes of a list of a sound store
pub listed_at : (store : Store) → IsSound store → (l : ℕ) → l < length store.lists.lists
    → AllByRecursion (λ x. IsIn l x.1) (list_at store.lists.lists l)
listed_at store sound l within =
    let none : 0 + l ≡ l = omega arith in
    subst (λ n. AllByRecursion (λ x. IsIn n x.1) (list_at store.lists.lists l)) none
    (placed_at 0 store.lists.lists sound.placed l within)
