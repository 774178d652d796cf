-- What keeps books.
use Rattle.std.proofs.Common.{◌≡◌, ℕ, zero, suc, ◌+◌, ◌<◌, ◌≤◌, Bool, true, false, List, [], ◌∷◌, ◌++◌, length, map}
use Rattle.std.proofs.Common.{Option, Some, None, Contains, IsSome, refl, sym, ap, subst, ◌∙◌, inl, inr, arith}
use Rattle.std.specs.Prelude.{◌==◌, ◌&&◌, is_some}
use Rattle.std.specs.List.{All, AllByRecursion, filter}
use Rattle.std.specs.Option.{ok_or}
use Rattle.std.specs.Result.{OnErr}
use Rattle.std.specs.BTreeMap.{get}
use Rattle.std.proofs.lemmas.Bool.{cases_Bool}
use Rattle.std.proofs.lemmas.Bool.Decides.{nat_tests}
use Rattle.std.proofs.lemmas.Grind.{common_steps}
use Rattle.std.proofs.lemmas.List.{append-nil, length-map}
use Rattle.std.proofs.lemmas.List.Elements.{All-filter, All-from_recursion, filter-append, recursion_from_All}
use Rattle.sx_book.specs.declared.store.Store.{Store}
use Rattle.sx_book.specs.Books.{Book, IsBook, IsListed, left_by, less, without}
use Rattle.sx_book.specs.Store.{IsKept, IsReduced, IsSound, nodes_of, offers_in, offers_of}
use Rattle.sx_book.proofs.Fills.{all_left}
use Rattle.sx_book.proofs.Keys.{Sorted, in_order_from}
use Rattle.sx_book.proofs.Lists.{all_append, all_parts, filter_all, filter_none}
use Rattle.sx_book.proofs.Located.{absent_by, contains_by}
use Rattle.sx_book.proofs.Placed.{is_pair, mapped}
use Rattle.sx_ledger.specs.declared.fill.Fill.{Fill}
use Rattle.sx_ledger.specs.declared.key.Key.{Key}
use Rattle.sx_ledger.specs.declared.offer.Offer.{Offer}
use Rattle.sx_ledger.specs.contracts.key.KeyOrd.TheImpl as derived
use Rattle.sx_ledger.specs.Body.{put_offer}
use Rattle.sx_ledger.specs.Bounds.{pair_of}
use Rattle.sx_ledger.specs.Ledger.{keys}
use Rattle.sx_ledger.specs.Order.{key_of, offer_before}

keys_are : (nodes : List (ℕ × Offer)) → map (λ x. key_of x.1) nodes ≡ keys (offers_in nodes)
keys_are [] = refl
keys_are (x ∷ xs) = ap (λ ks. key_of x.1 ∷ ks) (keys_are xs)

pub book_is : (assets : ℕ) (store : Store) → IsKept assets store
    → IsBook (record { assets = assets; offers = offers_of store })
book_is assets store kept =
    let nodes = nodes_of store.lists.lists in
    record {
      some_asset = kept.some_asset;
      few_assets = kept.few_assets;
      few_offers = omega (arith, length-map nodes (λ x. x.1), kept.sound.few);
      listed = kept.listed;
      amounts = All-from_recursion (λ offer. 1 ≤ offer.amount) (offers_of store)
          (mapped (λ offer. 1 ≤ offer.amount) nodes kept.sound.amounts);
      by_key = in_order_from (keys (offers_of store)) (subst Sorted (keys_are nodes) kept.sound.sorted);
    }

-- ---- what is there

pub contains_test : (store : Store) (sound : IsSound store) (key : Key)
    → is_some (get derived.ghosts.cmp store.nodes key) ≡ true → Contains (keys (offers_of store)) key
contains_test store sound key some = by_case (get derived.ghosts.cmp store.nodes key) refl some
  where
    by_case : (o : Option ℕ) → get derived.ghosts.cmp store.nodes key ≡ o → is_some o ≡ true
        → Contains (keys (offers_of store)) key
    by_case None is test = absurd cc
    by_case (Some node) is test = contains_by store sound key node is

pub absent_test : (store : Store) (sound : IsSound store) (key : Key)
    → is_some (get derived.ghosts.cmp store.nodes key) ≡ false → Contains (keys (offers_of store)) key → ⊥
absent_test store sound key none = by_case (get derived.ghosts.cmp store.nodes key) refl none
  where
    by_case : (o : Option ℕ) → get derived.ghosts.cmp store.nodes key ≡ o → is_some o ≡ false
        → Contains (keys (offers_of store)) key → ⊥
    by_case None is test = absent_by store sound key is
    by_case (Some node) is test = absurd cc

-- books with the same offers are the same
pub book_same : (assets : ℕ) (one other : List Offer) → one ≡ other
    → ◌≡◌ {A = Book} (record { assets = assets; offers = one }) (record { assets = assets; offers = other })
book_same assets one other same = ap (λ (offers : List Offer). record { assets = assets; offers = offers }) same

-- what holds where nothing was found holds on an error
pub on_absent : {E : Type 0} (r : Option Offer) (e : E) (P : Type 0) → (r ≡ None → P) → OnErr (ok_or r e) P
on_absent None e P then = then refl
on_absent (Some offer) e P then = tt

-- ---- what keeps books

all_put : (P : Offer → Type 0) (new : Offer) (offers : List Offer) → P new → AllByRecursion P offers
    → AllByRecursion P (put_offer new offers)
all_put P new [] here all = (here, tt)
all_put P new (offer ∷ offers) here all =
    elim (cases_Bool (offer_before new offer)) [
      | inl first ↦ rw first (here, all)
      | inr later ↦ rw later (all.0, all_put P new offers here all.1)
    ]

module _ (assets : ℕ) (old new : Store) (kept : IsKept assets old) (sound : IsSound new) where
  kept_with : All (IsListed assets) (offers_of new) → IsKept assets new
  kept_with listed = record {
    some_asset = kept.some_asset;
    few_assets = kept.few_assets;
    sound = sound;
    listed = listed;
  }

  pub kept_same : offers_of new ≡ offers_of old → IsKept assets new
  kept_same same = kept_with (subst (All (IsListed assets)) (sym same) kept.listed)

  pub kept_put : (offer : Offer) → IsListed assets offer → offers_of new ≡ put_offer offer (offers_of old)
      → IsKept assets new
  kept_put offer listed made =
      kept_with (subst (All (IsListed assets)) (sym made) (All-from_recursion (IsListed assets)
      (put_offer offer (offers_of old))
      (all_put (IsListed assets) offer (offers_of old) listed (recursion_from_All (IsListed assets) (offers_of old)
      kept.listed))))

  pub kept_take : (key : Key) → offers_of new ≡ without key (offers_of old) → IsKept assets new
  kept_take key made =
      kept_with (subst (All (IsListed assets)) (sym made) (All-filter _ (IsListed assets) (offers_of old) kept.listed))

  pub kept_reduce : (sell buy : ℕ) (fills : List Fill) → IsReduced sell buy fills (offers_of old) (offers_of new)
      → IsKept assets new
  kept_reduce sell buy fills made =
      let P = IsListed assets in
      let pair = pair_of sell buy (offers_of old) in
      let was = subst (AllByRecursion P) made.was (recursion_from_All P (offers_of old) kept.listed) in
      let first = all_parts P made.before (pair ++ made.after) was in
      let second = all_parts P pair made.after first.1 in
      let left = all_left P (λ offer units is. record { sell = is.sell; buy = is.buy; differ = is.differ }) fills 0
      pair second.0 in
      kept_with (subst (All P) (sym made.is) (All-from_recursion P (made.before ++ (left_by fills pair ++ made.after))
      (all_append P made.before (left_by fills pair ++ made.after) first.0
      (all_append P (left_by fills pair) made.after left second.1))))

-- ---- the pairs after a reduction

module _ (sell buy : ℕ) (fills : List Fill) (old new : List Offer) (made : IsReduced sell buy fills old new) where
  abbrev pair : List Offer
  pair = pair_of sell buy old

  all_pair : (offers : List Offer) → AllByRecursion (λ o. is_pair sell buy o ≡ true) (pair_of sell buy offers)
  all_pair [] = tt
  all_pair (o ∷ os) =
      elim (cases_Bool (is_pair sell buy o)) [
        | inl here ↦ rw here (here, all_pair os)
        | inr other ↦ rw other (all_pair os)
      ]

  all_left_pair : AllByRecursion (λ o. is_pair sell buy o ≡ true) (left_by fills pair)
  all_left_pair = all_left (λ o. is_pair sell buy o ≡ true) (λ o units is. is) fills 0 pair (all_pair old)

  split : (one other : ℕ) (xs ys zs : List Offer) → pair_of one other (xs ++ (ys ++ zs))
      ≡ pair_of one other xs ++ (pair_of one other ys ++ pair_of one other zs)
  split one other xs ys zs =
      filter-append (is_pair one other) xs (ys ++ zs)
      ∙ ap (λ os. pair_of one other xs ++ os) (filter-append (is_pair one other) ys zs)

  pub pair_after : pair_of sell buy new ≡ left_by fills pair
  pair_after =
      ap (pair_of sell buy) made.is
      ∙ split sell buy made.before (left_by fills pair) made.after
      ∙ ap (λ os. os ++ (pair_of sell buy (left_by fills pair) ++ pair_of sell buy made.after)) made.none_before
      ∙ ap (λ os. pair_of sell buy (left_by fills pair) ++ os) made.none_after
      ∙ append-nil (pair_of sell buy (left_by fills pair))
      ∙ filter_all (is_pair sell buy) (left_by fills pair) all_left_pair

  other_none : (one other : ℕ) → ((one ≡ sell) × (other ≡ buy) → ⊥) → (offers : List Offer)
      → AllByRecursion (λ o. is_pair sell buy o ≡ true) offers → pair_of one other offers ≡ []
  other_none one other differs [] all = refl
  other_none one other differs (o ∷ os) all =
      let here = all.0 in
      let no : is_pair one other o ≡ false = differ o one other here differs in
      rw no (other_none one other differs os all.1)
    where
      differ : (o : Offer) (one other : ℕ) → is_pair sell buy o ≡ true → ((one ≡ sell) × (other ≡ buy) → ⊥)
          → is_pair one other o ≡ false
      differ o one other here differs = elim (cases_Bool (is_pair one other o)) [
        | inl passes ↦ (let sold : one ≡ sell = grind (arith, common_steps, nat_tests) in
            let bought : other ≡ buy = grind (arith, common_steps, nat_tests) in
            absurd (differs (sold, bought)))
        | inr fails ↦ fails
      ]

  pub pair_other : (one other : ℕ) → ((one ≡ sell) × (other ≡ buy) → ⊥) → pair_of one other new ≡ pair_of one other old
  pair_other one other differs =
      ap (pair_of one other) made.is
      ∙ split one other made.before (left_by fills pair) made.after
      ∙ ap (λ os. pair_of one other made.before ++ (os ++ pair_of one other made.after))
      (other_none one other differs (left_by fills pair) all_left_pair
      ∙ sym (other_none one other differs pair (all_pair old)))
      ∙ sym (split one other made.before pair made.after)
      ∙ ap (pair_of one other) (sym made.was)
