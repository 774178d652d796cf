-- The offers of a pair are those of its list.
use Rattle.std.proofs.Common.{◌≡◌, ◌≢◌, ℕ, zero, suc, ◌+◌, ◌<◌, List, [], ◌∷◌, ◌++◌, length, map, take, drop, get_or}
use Rattle.std.proofs.Common.{Option, Some, None, slice_get, refl, sym, ap, subst, ◌∙◌, arith}
use Rattle.std.specs.List.{AllByRecursion}
use Rattle.std.specs.Option.{option_map}
use Rattle.std.proofs.lemmas.List.{append-nil, map-append, map_more, take-append-drop}
use Rattle.std.proofs.lemmas.List.Elements.{filter-append}
use Rattle.std.proofs.lemmas.Option.{get_or_from_slice_get, slice_get-map, slice_get_within}
use Rattle.sx_book.specs.declared.store.Store.{Store}
use Rattle.sx_book.specs.Store.{IsSound, list_of, nodes_of, offers_in, offers_of}
use Rattle.sx_book.proofs.Flat.{ahead, beyond, flat_around}
use Rattle.sx_book.proofs.Placed.{IsAhead, IsBeyond, is_pair, pair_ahead, pair_beyond, pair_here, placed_ahead}
use Rattle.sx_book.proofs.Placed.{placed_beyond}
use Rattle.sx_book.proofs.Sound.{listed_at}
use Rattle.sx_ledger.specs.declared.offer.Offer.{Offer}
use Rattle.sx_ledger.specs.Bounds.{pair_of}
use Rattle.sx_links.specs.Lists.{list_at, node_at, rest_from}

module _ (store : Store) (sound : IsSound store) (sell buy : ℕ) (in_range : buy < 32)
    (within : list_of sell buy < length store.lists.lists) where
  abbrev l : ℕ
  l = list_of sell buy

  -- all offers are those ahead of the pair's, its own, and those beyond
  pub offers_around : offers_of store ≡ offers_in (ahead store.lists.lists l)
      ++ (offers_in (list_at store.lists.lists l) ++ offers_in (beyond store.lists.lists l))
  offers_around =
      ap offers_in (flat_around store.lists.lists l within)
      ∙ map-append (λ x. x.1) (ahead store.lists.lists l) (list_at store.lists.lists l ++ beyond store.lists.lists l)
      ∙ ap (λ ys. offers_in (ahead store.lists.lists l) ++ ys)
      (map-append (λ x. x.1) (list_at store.lists.lists l) (beyond store.lists.lists l))

  pub none_ahead : pair_of sell buy (offers_in (ahead store.lists.lists l)) ≡ []
  none_ahead =
      let none : 0 + l ≡ l = omega arith in
      pair_ahead sell buy in_range (ahead store.lists.lists l) (subst (λ n. AllByRecursion (λ x. IsAhead n x.1)
      (ahead store.lists.lists l)) none
      (placed_ahead 0 store.lists.lists sound.placed l))

  pub none_beyond : pair_of sell buy (offers_in (beyond store.lists.lists l)) ≡ []
  none_beyond =
      let none : 0 + l ≡ l = omega arith in
      pair_beyond sell buy in_range (beyond store.lists.lists l)
      (subst (λ n. AllByRecursion (λ x. IsBeyond n x.1) (beyond store.lists.lists l)) none
      (placed_beyond 0 store.lists.lists sound.placed l))

  pub pair_is : pair_of sell buy (offers_of store) ≡ offers_in (list_at store.lists.lists l)
  pair_is =
      let test = is_pair sell buy in
      let xs = offers_in (ahead store.lists.lists l) in
      let ys = offers_in (list_at store.lists.lists l) in
      let zs = offers_in (beyond store.lists.lists l) in
      ap (pair_of sell buy) offers_around
      ∙ filter-append test xs (ys ++ zs)
      ∙ ap (λ ws. pair_of sell buy xs ++ ws) (filter-append test ys zs)
      ∙ ap (λ ws. ws ++ (pair_of sell buy ys ++ pair_of sell buy zs)) none_ahead
      ∙ ap (λ ws. pair_of sell buy ys ++ ws) none_beyond
      ∙ append-nil (pair_of sell buy ys)
      ∙ pair_here sell buy in_range (list_at store.lists.lists l) (listed_at store sound l within)

  pub first_some : (n : ℕ) (offer : Offer) → slice_get (list_at store.lists.lists l) 0 ≡ Some (n, offer)
      → Some offer ≡ slice_get (pair_of sell buy (offers_of store)) 0
  first_some n offer here =
      sym (ap (λ xs. slice_get xs 0) pair_is ∙ slice_get-map (λ x. x.1) (list_at store.lists.lists l) 0
      ∙ ap (option_map (λ x. x.1)) here)

  pub first_none : node_at (list_at store.lists.lists l) 0 ≡ None
      → None ≡ slice_get (pair_of sell buy (offers_of store)) 0
  first_none none =
      sym (ap (λ xs. slice_get xs 0) pair_is ∙ slice_get-map (λ x. x.1) (list_at store.lists.lists l) 0
      ∙ ap (option_map (λ x. x.1)) (unmapped (slice_get (list_at store.lists.lists l) 0) none))
    where
      unmapped : (o : Option (ℕ × Offer)) → option_map (λ x. x.0) o ≡ None → o ≡ None
      unmapped None is = refl
      unmapped (Some x) is = absurd cc

-- ---- a walk through a list

pub seen_more : (xs : List (ℕ × Offer)) (i n : ℕ) (offer : Offer) → slice_get xs i ≡ Some (n, offer)
    → offers_in (take i xs) ++ offer ∷ [] ≡ offers_in (take (i + 1) xs)
seen_more xs i n offer got =
    ap (λ y. offers_in (take i xs) ++ y.1 ∷ []) (sym (get_or_from_slice_get xs i (n, offer) (n, offer) got))
    ∙ sym (map_more (λ x. x.1) xs i (n, offer) (slice_get_within xs i (n, offer) got))

pub nothing_left : (xs : List (ℕ × Offer)) (i : ℕ) (at : Option ℕ) → at ≡ None → rest_from at xs ≡ drop i xs
    → take i xs ≡ xs
nothing_left xs i at none rest =
    sym (append-nil (take i xs))
    ∙ ap (λ zs. take i xs ++ zs) (ap (λ o. rest_from o xs) (sym none) ∙ rest)
    ∙ take-append-drop i xs

pub node_none : (xs : List (ℕ × Offer)) (i : ℕ) → node_at xs i ≡ None → node_at xs (suc i) ≡ None
node_none [] i none = refl
node_none (x ∷ xs) zero none = absurd cc
node_none (x ∷ xs) (suc i) none = node_none xs i none
