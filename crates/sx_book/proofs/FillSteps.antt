-- One fill after the other, along a list.
use Rattle.std.proofs.Common.{◌≡◌, ℕ, zero, suc, ◌+◌, ◌-◌, ◌<◌, ◌≤◌, List, [], ◌∷◌, ◌++◌, length, map, take, drop}
use Rattle.std.proofs.Common.{set, get_or, Option, Some, None, slice_get, IsSomeAnd, refl, sym, ap, subst, ◌∙◌, arith}
use Rattle.std.specs.List.{AllByRecursion}
use Rattle.std.specs.List.Sorted.{IsStrictlySortedBy}
use Rattle.std.specs.Option.{option_map}
use Rattle.std.specs.declared.cmp.Ordering.TheVariants.{Less}
use Rattle.std.specs.Ordering.{nat_cmp}
use Rattle.std.proofs.lemmas.Bool.Decides.{nat_tests}
use Rattle.std.proofs.lemmas.Grind.{common_steps}
use Rattle.std.proofs.lemmas.List.{append_assoc, drop-drop, drop-map, get_or-set_same, length-append, map-append}
use Rattle.std.proofs.lemmas.List.{set-get_or, set-set, take-map}
use Rattle.std.proofs.lemmas.Option.{same_Some, slice_get-map, slice_get_within}
use Rattle.sx_book.specs.declared.store.Store.{Store}
use Rattle.sx_book.specs.Books.{Fits, left_by, left_from, most_offers, places}
use Rattle.sx_book.specs.Store.{Has, IsReduced, IsSound, SoFar, given_by, left_node, list_of, nodes_of, offers_in}
use Rattle.sx_book.specs.Store.{offers_of}
use Rattle.sx_book.proofs.Fills.{left_at, left_nil, left_of_node, left_one}
use Rattle.sx_book.proofs.Flat.{ahead, beyond, flat_around, flat_set}
use Rattle.sx_book.proofs.Lists.{all_drop, all_from, all_parts, all_unmapped, all_weaker}
use Rattle.sx_book.proofs.Pairs.{none_ahead, none_beyond, offers_around, pair_is}
use Rattle.sx_book.proofs.Placed.{mapped}
use Rattle.sx_ledger.specs.declared.fill.Fill.{Fill}
use Rattle.sx_ledger.specs.declared.offer.Offer.{Offer}
use Rattle.sx_ledger.specs.Bounds.{pair_of}
use Rattle.sx_links.specs.Lists.{list_at, node_at}

abbrev Nodes : Type 0
Nodes = List (ℕ × Offer)

module _ {X : Type 0} where
  slice_get_shift : (xs ys : List X) (k : ℕ) → slice_get (xs ++ ys) (length xs + k) ≡ slice_get ys k
  slice_get_shift [] ys k = let none : 0 + k ≡ k = omega arith in ap (slice_get ys) none
  slice_get_shift (x ∷ xs) ys k =
      let next : suc (length xs) + k ≡ suc (length xs + k) = omega arith in
      ap (slice_get (x ∷ (xs ++ ys))) next ∙ slice_get_shift xs ys k

  slice_get_drop : (n : ℕ) (xs : List X) (k : ℕ) → slice_get (drop n xs) k ≡ slice_get xs (n + k)
  slice_get_drop zero xs k = let none : k ≡ 0 + k = omega arith in ap (slice_get xs) none
  slice_get_drop (suc n) [] k = refl
  slice_get_drop (suc n) (x ∷ xs) k =
      let next : suc (n + k) ≡ suc n + k = omega arith in
      slice_get_drop n xs k ∙ ap (slice_get (x ∷ xs)) next

  take_shift : (xs ys : List X) (k : ℕ) → take (length xs + k) (xs ++ ys) ≡ xs ++ take k ys
  take_shift [] ys k = let none : 0 + k ≡ k = omega arith in ap (λ n. take n ys) none
  take_shift (x ∷ xs) ys k =
      let next : suc (length xs) + k ≡ suc (length xs + k) = omega arith in
      ap (λ n. take n (x ∷ (xs ++ ys))) next ∙ ap (λ zs. x ∷ zs) (take_shift xs ys k)

  drop_shift : (xs ys : List X) (k : ℕ) → drop (length xs + k) (xs ++ ys) ≡ drop k ys
  drop_shift [] ys k = let none : 0 + k ≡ k = omega arith in ap (λ n. drop n ys) none
  drop_shift (x ∷ xs) ys k =
      let next : suc (length xs) + k ≡ suc (length xs + k) = omega arith in
      ap (λ n. drop n (x ∷ (xs ++ ys))) next ∙ drop_shift xs ys k

-- the node that a fill is of has what it gives
pub fit_at : (nodes : Nodes) (fill : Fill) → Fits (offers_in nodes) fill
    → (x : ℕ × Offer) × (slice_get nodes fill.place ≡ Some x) × (fill.gives ≤ x.1.amount)
fit_at nodes fill fits =
    by_case (slice_get nodes fill.place) refl
    (subst (λ o. IsSomeAnd o (λ offer. fill.gives ≤ offer.amount)) (slice_get-map (λ x. x.1) nodes fill.place) fits)
  where
    by_case : (o : Option (ℕ × Offer)) → slice_get nodes fill.place ≡ o
        → IsSomeAnd (option_map (λ x. x.1) o) (λ offer. fill.gives ≤ offer.amount)
        → (x : ℕ × Offer) × (slice_get nodes fill.place ≡ Some x) × (fill.gives ≤ x.1.amount)
    by_case None is fit = absurd fit
    by_case (Some x) is fit = (x, is, fit)

module _ (old : List Nodes) (list : ℕ) (within : list < length old) (fills : List Fill) where
  abbrev xs : Nodes
  xs = list_at old list

  -- before the first fill
  pub so_far_first : (at : Option ℕ) → at ≡ node_at (list_at old list) 0 → IsStrictlySortedBy nat_cmp (places fills)
      → AllByRecursion (Fits (offers_in (list_at old list))) fills → SoFar old old list fills fills at 0
  so_far_first at here rising fits = record {
    done = [];
    lists = sym (set-get_or old list []);
    here = here;
    within = omega arith;
    left = refl;
    ahead = all_from (λ fill. 0 ≤ fill.place) fills (λ i fill is. omega arith);
    rising = rising;
    fits = fits;
  }

  module _ (now : List Nodes) (rest : List Fill) (at : Option ℕ) (place : ℕ)
      (so : SoFar old now list fills rest at place) where
    now_list : list_at now list ≡ so.done ++ drop place xs
    now_list = ap (λ ls. list_at ls list) so.lists ∙ get_or-set_same old list (so.done ++ drop place xs) [] within

    pub got_now : (k : ℕ) → slice_get (list_at now list) (length so.done + k) ≡ slice_get xs (place + k)
    got_now k =
        ap (λ ys. slice_get ys (length so.done + k)) now_list
        ∙ slice_get_shift so.done (drop place xs) k ∙ slice_get_drop place xs k

    pub node_now : (k : ℕ) → node_at (list_at now list) (length so.done + k) ≡ node_at xs (place + k)
    node_now k = ap (option_map (λ x. x.0)) (got_now k)

    pub at_now : at ≡ node_at (list_at now list) (length so.done)
    at_now =
        let none : length so.done + 0 ≡ length so.done = omega arith in
        let same : place ≡ place + 0 = omega arith in
        so.here ∙ ap (node_at xs) same ∙ sym (node_now 0) ∙ ap (node_at (list_at now list)) none

    -- at the end
    pub left_all : rest ≡ [] → AllByRecursion (λ x. 1 ≤ x.1.amount) xs
        → offers_in (so.done ++ drop place xs) ≡ left_by fills (offers_in xs)
    left_all none amounts =
        map-append (λ x. x.1) so.done (drop place xs)
        ∙ ap (λ os. offers_in so.done ++ os) (sym (left_nil place (offers_in (drop place xs))
        (mapped (λ offer. 1 ≤ offer.amount) (drop place xs) (all_drop (λ x. 1 ≤ x.1.amount) place xs amounts))))
        ∙ ap (λ fs. offers_in so.done ++ left_from fs place (offers_in (drop place xs))) (sym none)
        ∙ so.left

    module _ (fill : Fill) (others : List Fill) (first : rest ≡ fill ∷ others) where
      pub not_behind : place ≤ fill.place
      not_behind = (subst (AllByRecursion (λ f. place ≤ f.place)) first so.ahead).0

      pub fit : (x : ℕ × Offer) × (slice_get xs fill.place ≡ Some x) × (fill.gives ≤ x.1.amount)
      fit = fit_at xs fill (subst (AllByRecursion (Fits (offers_in xs))) first so.fits).0

      abbrev k : ℕ
      k = fill.place - place

      pub node_is : node_at (list_at now list) (length so.done + k) ≡ Some fit.0.0
      node_is =
          let sum : place + k ≡ fill.place = omega (arith, not_behind) in
          node_now k ∙ ap (node_at xs) sum ∙ ap (option_map (λ x. x.0)) fit.1

      pub got_is : slice_get (list_at now list) (length so.done + k) ≡ Some fit.0
      got_is =
          let sum : place + k ≡ fill.place = omega (arith, not_behind) in
          got_now k ∙ ap (slice_get xs) sum ∙ fit.1

      pub next_is : node_at (list_at now list) ((length so.done + k) + 1) ≡ node_at xs (fill.place + 1)
      next_is =
          let sum : place + (k + 1) ≡ fill.place + 1 = omega (arith, not_behind) in
          let same : (length so.done + k) + 1 ≡ length so.done + (k + 1) = omega arith in
          ap (node_at (list_at now list)) same ∙ node_now (k + 1) ∙ ap (node_at xs) sum

      pub has_units : (node : ℕ) → node ≡ fit.0.0 → Has now node fill.gives
      has_units node is = record {
        list = list;
        place = length so.done + k;
        offer = fit.0.1;
        here = got_is ∙ ap (λ n. Some (n, fit.0.1)) (sym is);
        enough = fit.2;
      }

      later : AllByRecursion (λ f. fill.place < f.place) others
      unfolding IsStrictlySortedBy
      later =
          let sorted = subst (λ fs. IsStrictlySortedBy nat_cmp (places fs)) first so.rising in
          all_weaker (λ f. nat_cmp fill.place f.place ≡ Less) (λ f. fill.place < f.place)
          (λ f less. grind (arith, common_steps, nat_tests)) others
          (all_unmapped (λ p. nat_cmp fill.place p ≡ Less) (λ f. f.place) others sorted.0)

      done' : Nodes
      done' = (so.done ++ take k (drop place xs)) ++ left_node fit.0 fill.gives

      dropped : drop (suc k) (drop place xs) ≡ drop (fill.place + 1) xs
      dropped =
          let sum : place + suc k ≡ fill.place + 1 = omega (arith, not_behind) in
          drop-drop (suc k) place xs ∙ ap (λ n. drop n xs) sum

      -- after this fill
      pub so_far_next : (new : List Nodes) (at' : Option ℕ) → AllByRecursion (λ x. 1 ≤ x.1.amount) xs
          → new ≡ set now list (given_by (list_at now list) (length so.done + k) fit.0 fill.gives)
          → at' ≡ node_at xs (fill.place + 1) → SoFar old new list fills others at' (fill.place + 1)
      unfolding done' IsStrictlySortedBy
      so_far_next new at' amounts made here =
          let ys = drop place xs in
          let left = left_node fit.0 fill.gives in
          let skipped : suc (length so.done + k) ≡ length so.done + suc k = omega arith in
          let whole : given_by (list_at now list) (length so.done + k) fit.0 fill.gives ≡ done' ++ drop
          (fill.place + 1) xs =
          ap (λ zs. given_by zs (length so.done + k) fit.0 fill.gives) now_list
          ∙ ap (λ zs. zs ++ (left ++ drop (suc (length so.done + k)) (so.done ++ ys))) (take_shift so.done ys k)
          ∙ ap (λ n. (so.done ++ take k ys) ++ (left ++ drop n (so.done ++ ys))) skipped
          ∙ ap (λ zs. (so.done ++ take k ys) ++ (left ++ zs)) (drop_shift so.done ys (suc k) ∙ dropped)
          ∙ sym (append_assoc (so.done ++ take k ys) left (drop (fill.place + 1) xs)) in
          let next : suc fill.place ≡ fill.place + 1 = omega arith in
          let sum : fill.place ≡ place + k = omega (arith, not_behind) in
          let here' : slice_get (offers_in ys) k ≡ Some fit.0.1 = slice_get-map (λ x. x.1) ys k
          ∙ ap (option_map (λ x. x.1)) (slice_get_drop place xs k ∙ ap (slice_get xs) (sym sum) ∙ fit.1) in
          let step = left_at fill others place k (offers_in ys) fit.0.1 sum later
          (mapped (λ offer. 1 ≤ offer.amount) ys (all_drop (λ x. 1 ≤ x.1.amount) place xs amounts)) here' in
          let done_offers : offers_in done' ≡ (offers_in so.done ++ take k (offers_in ys)) ++ left_one fit.0.1
          fill.gives =
          map-append (λ x. x.1) (so.done ++ take k ys) left
          ∙ ap (λ os. os ++ offers_in left) (map-append (λ x. x.1) so.done (take k ys)
          ∙ ap (λ os. offers_in so.done ++ os) (sym (take-map (λ x. x.1) k ys)))
          ∙ ap (λ os. (offers_in so.done ++ take k (offers_in ys)) ++ os) (left_of_node fit.0 fill.gives) in
          let rest_offers : left_from others (fill.place + 1) (offers_in (drop (fill.place + 1) xs))
          ≡ left_from others (suc fill.place) (drop (suc k) (offers_in ys)) =
          ap (λ n. left_from others n (offers_in (drop (fill.place + 1) xs))) (sym next)
          ∙ ap (λ zs. left_from others (suc fill.place) (offers_in zs)) (sym dropped)
          ∙ ap (left_from others (suc fill.place)) (sym (drop-map (λ x. x.1) (suc k) ys)) in
          let regroup : (a b c d : List Offer) → ((a ++ b) ++ c) ++ d ≡ a ++ (b ++ (c ++ d)) = λ a b c d. simp
          append_assoc in
          record {
            done = done';
            lists = made ∙ ap (set now list) whole
                ∙ ap (λ ls. set ls list (done' ++ drop (fill.place + 1) xs)) so.lists
                ∙ set-set old list (so.done ++ drop place xs) (done' ++ drop (fill.place + 1) xs);
            here = here;
            within = omega (arith, slice_get_within xs fill.place fit.0 fit.1);
            left = ap (λ os. os ++ left_from others (fill.place + 1) (offers_in (drop (fill.place + 1) xs))) done_offers
                ∙ ap (λ os. ((offers_in so.done ++ take k (offers_in ys)) ++ left_one fit.0.1 fill.gives) ++ os)
                rest_offers
                ∙ regroup (offers_in so.done) (take k (offers_in ys)) (left_one fit.0.1 fill.gives)
                (left_from others (suc fill.place) (drop (suc k) (offers_in ys)))
                ∙ ap (λ os. offers_in so.done ++ os) (sym step)
                ∙ ap (λ fs. offers_in so.done ++ left_from fs place (offers_in ys)) (sym first)
                ∙ so.left;
            ahead = all_weaker (λ f. fill.place < f.place) (λ f. fill.place + 1 ≤ f.place) (λ f lt. omega arith) others
                later;
            rising = (subst (λ fs. IsStrictlySortedBy nat_cmp (places fs)) first so.rising).1;
            fits = (subst (AllByRecursion (Fits (offers_in xs))) first so.fits).1;
          }

-- after the last fill
pub reduced_is : (old new : Store) → IsSound old → (sell buy : ℕ) → buy < 32
    → (within : list_of sell buy < length old.lists.lists) (fills : List Fill) (at : Option ℕ) (place : ℕ)
    → SoFar old.lists.lists new.lists.lists (list_of sell buy) fills [] at place
    → AllByRecursion (λ x. 1 ≤ x.1.amount) (list_at old.lists.lists (list_of sell buy))
    → IsReduced sell buy fills (offers_of old) (offers_of new)
reduced_is old new sound sell buy in_range within fills at place so amounts =
    let l = list_of sell buy in
    let lists = old.lists.lists in
    let pair = pair_is old sound sell buy in_range within in
    let mid = left_all lists l within fills new.lists.lists [] at place so refl amounts in
    let ys = so.done ++ drop place (list_at lists l) in
    record {
      before = offers_in (ahead lists l);
      after = offers_in (beyond lists l);
      was = offers_around old sound sell buy in_range within
          ∙ ap (λ os. offers_in (ahead lists l) ++ (os ++ offers_in (beyond lists l))) (sym pair);
      is = ap (λ ls. offers_in (nodes_of ls)) so.lists
          ∙ ap offers_in (flat_set lists l ys within)
          ∙ map-append (λ x. x.1) (ahead lists l) (ys ++ beyond lists l)
          ∙ ap (λ os. offers_in (ahead lists l) ++ os) (map-append (λ x. x.1) ys (beyond lists l)
          ∙ ap (λ os. os ++ offers_in (beyond lists l)) (mid ∙ ap (left_by fills) (sym pair)));
      none_before = none_ahead old sound sell buy in_range within;
      none_after = none_beyond old sound sell buy in_range within;
    }

-- the amounts of a list
pub amounts_at : (store : Store) → IsSound store → (sell buy : ℕ) → (within : list_of sell buy < length
    store.lists.lists)
    → AllByRecursion (λ x. 1 ≤ x.1.amount) (list_at store.lists.lists (list_of sell buy))
amounts_at store sound sell buy within =
    let l = list_of sell buy in
    let lists = store.lists.lists in
    let all = all_parts (λ x. 1 ≤ x.1.amount) (ahead lists l) (list_at lists l ++ beyond lists l)
    (subst (AllByRecursion (λ x. 1 ≤ x.1.amount)) (flat_around lists l within) sound.amounts) in
    (all_parts (λ x. 1 ≤ x.1.amount) (list_at lists l) (beyond lists l) all.1).0

-- no list has more than the most offers
pub list_short : (store : Store) → IsSound store → (sell buy : ℕ) → (within : list_of sell buy < length
    store.lists.lists)
    → length (list_at store.lists.lists (list_of sell buy)) ≤ most_offers
list_short store sound sell buy within =
    let l = list_of sell buy in
    let lists = store.lists.lists in
    let whole = ap length (flat_around lists l within) in
    let first = length-append (ahead lists l) (list_at lists l ++ beyond lists l) in
    let second = length-append (list_at lists l) (beyond lists l) in
    omega (arith, sound.few)
