-- Offers that are put one after the other, in order.
use Rattle.std.proofs.Common.{◌≡◌, ℕ, zero, suc, ◌+◌, ◌<◌, ◌≤◌, true, false, List, [], ◌∷◌, ◌++◌, length, map, take}
use Rattle.std.proofs.Common.{drop, get_or, Option, Some, None, Contains, slice_get, refl, sym, ap, subst, ◌∙◌, arith}
use Rattle.std.specs.List.{AllByRecursion}
use Rattle.std.proofs.lemmas.List.{take_more}
use Rattle.std.proofs.lemmas.Option.{get_or_from_slice_get, slice_get-get_or, slice_get_within}
use Rattle.sx_bytes.specs.Grammar.{in_order}
use Rattle.sx_book.proofs.Keys.{Sorted, not_back, not_itself, sorted_around, sorted_from}
use Rattle.sx_book.proofs.Lists.{split_at}
use Rattle.sx_ledger.specs.declared.key.Key.{Key}
use Rattle.sx_ledger.specs.declared.offer.Offer.{Offer}
use Rattle.sx_ledger.specs.Body.{put_offer}
use Rattle.sx_ledger.specs.Ledger.{keys}
use Rattle.sx_ledger.specs.Order.{key_before, key_of}

put_after : (new : Offer) (xs : List Offer) → AllByRecursion (λ x. key_before (key_of x) (key_of new) ≡ true) xs
    → put_offer new xs ≡ xs ++ new ∷ []
put_after new [] all = refl
put_after new (x ∷ xs) all =
    let later = not_back (key_of x) (key_of new) all.0 in
    rw later (ap (λ ys. x ∷ ys) (put_after new xs all.1))

none_has : (new : Offer) (xs : List Offer) → AllByRecursion (λ x. key_before (key_of x) (key_of new) ≡ true) xs
    → Contains (keys xs) (key_of new) → ⊥
none_has new [] all (k, within, at) = absurd (omega arith)
none_has new (x ∷ xs) all (zero, within, at) =
    not_itself (key_of new) (ap (λ k. key_before k (key_of new)) (sym at) ∙ all.0)
none_has new (x ∷ xs) all (suc k, within, at) = none_has new xs all.1 (k, omega arith, at)

module _ (offers : List Offer) (ordered : in_order key_before None (keys offers) ≡ true) (i : ℕ) (x : Offer)
    (within : i < length offers) (is : x ≡ get_or offers i x) where
  here : slice_get offers i ≡ Some x
  here = slice_get-get_or offers i x within ∙ ap (λ y. Some y) (sym is)

  all_before : AllByRecursion (λ o. key_before (key_of o) (key_of x) ≡ true) (take i offers)
  all_before =
      (sorted_around key_of (take i offers) x (drop (suc i) offers)
      (subst (λ xs. Sorted (map key_of xs)) (split_at offers i x here) (sorted_from (keys offers) ordered))).0

  pub put_next : put_offer x (take i offers) ≡ take (i + 1) offers
  put_next =
      put_after x (take i offers) all_before
      ∙ ap (λ y. take i offers ++ y ∷ []) (sym (get_or_from_slice_get offers i x x here))
      ∙ sym (take_more offers i x (slice_get_within offers i x here))

  pub absent_next : Contains (keys (take i offers)) (key_of x) → ⊥
  absent_next = none_has x (take i offers) all_before
