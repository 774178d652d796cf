-- The offers after a body: those that are kept and those that are made, in the order of their keys.
use Rattle.std.proofs.Common.{◌≡◌, ℕ, suc, ◌+◌, ◌<◌, ◌≤◌, Bool, true, false, cond, not, List, [], ◌∷◌, ◌++◌, length, get_or}
use Rattle.std.proofs.Common.{drop, Some, None, refl, sym, ap, subst, ◌∙◌}
use Rattle.std.specs.Prelude.{All, slice_get}
use Rattle.std.specs.List.{filter, list_any}
use Rattle.std.specs.List.Sorted.{IsPermutation, IsSortedByKey}
use Rattle.std.proofs.lemmas.List.{drop_more, nil_from_length}
use Rattle.std.proofs.lemmas.List.Elements.{All-get_or}
use Rattle.std.proofs.lemmas.List.Sorted.{IsPermutation-append_left, IsPermutation-sym, IsPermutation-trans}
use Rattle.std.proofs.lemmas.List.Sorted.{ranks_by, sorted_far}
use Rattle.std.proofs.lemmas.Option.{get_or_from_slice_get, same_Some, slice_get-get_or, slice_get_within}
use Rattle.sx_tally.specs.Merging.{merged}
use Rattle.sx_tally.specs.Changes.{AreFlags}
use Rattle.sx_tally.proofs.Merging.{merged_moves, merged_sorted}
use Rattle.sx_tally.proofs.SameOrder.{one_list, put_all_moves}
use Rattle.sx_ledger.specs.declared.offer.Offer.{Offer}
use Rattle.sx_ledger.specs.declared.parts.Parts.{Parts}
use Rattle.sx_ledger.specs.Body.{IsAdmissibleIn, cancelled, kept_offers, made, offers_after, put_offers}
use Rattle.sx_ledger.specs.Ledger.{IsLedger}
use Rattle.sx_ledger.specs.Order.{key_before, key_cmp, key_of, same_key}
use Rattle.sx_ledger.proofs.BodyKeepsLedger.{keys_in_order}
use Rattle.sx_ledger.proofs.Insertion.{filter_in_order, put_offers_are}
use Rattle.sx_ledger.proofs.KeyOrder.{before_both, before_differs, key_cmp_total}
use Rattle.sx_ledger.proofs.KeyOrder.{same_key_from, same_key_is}
use Rattle.sx_tx.specs.declared.tx.Tx.{Tx}

-- ---- the offers that are kept

not_cond : (b : Bool) (offer : Offer) (others : List Offer)
    → cond b [] (offer ∷ []) ++ others ≡ cond (not b) (offer ∷ others) others
not_cond true offer others = refl
not_cond false offer others = refl

-- the flag at a place tells what the test says of the offer there
flag_is : (test : Offer → Bool) (offers : List Offer) (flags : List Bool) → AreFlags test offers flags
    → (place : ℕ) (offer : Offer) (flag : Bool) → slice_get offers place ≡ Some offer
    → slice_get flags place ≡ Some flag → flag ≡ test offer
flag_is test offers flags are place offer flag here there =
    same_Some flag (test offer) (sym there ∙ are place offer here)

-- the kept offers from a place on: the one at the place, unless its flag is set, and those behind it
pub kept_more : (test : Offer → Bool) (offers : List Offer) (flags : List Bool) → AreFlags test offers flags
    → (place : ℕ) (offer : Offer) (flag : Bool) → place < length offers → offer ≡ get_or offers place offer
    → slice_get flags place ≡ Some flag
    → cond flag [] (offer ∷ []) ++ filter (λ o. not (test o)) (drop (place + 1) offers)
    ≡ filter (λ o. not (test o)) (drop place offers)
kept_more test offers flags are place offer flag lt is there =
    let rest = filter (λ (o : Offer). not (test o)) (drop (place + 1) offers) in
    let here = slice_get-get_or offers place offer lt ∙ ap Some (sym is) in
    ap (λ (b : Bool). cond b [] (offer ∷ []) ++ rest) (flag_is test offers flags are place offer flag here there)
    ∙ not_cond (test offer) offer rest
    ∙ ap (λ (o : Offer). filter (λ x. not (test x)) (o ∷ drop (place + 1) offers)) is
    ∙ sym (ap (filter (λ o. not (test o))) (drop_more offers place offer lt))

-- ---- the offers where nothing changes

-- where the test says no of each offer, all are kept
all_kept : (test : Offer → Bool) (offers : List Offer)
    → ((place : ℕ) (offer : Offer) → slice_get offers place ≡ Some offer → test offer ≡ false)
    → filter (λ o. not (test o)) offers ≡ offers
all_kept test [] none = refl
all_kept test (offer ∷ others) none = rw (none 0 offer refl)
    (ap (λ (xs : List Offer). offer ∷ xs) (all_kept test others (λ place. none (suc place))))

-- no flag is set
unset : (test : Offer → Bool) (offers : List Offer) (flags : List Bool) → AreFlags test offers flags
    → All (λ flag. flag ≡ false) flags → (place : ℕ) (offer : Offer) → slice_get offers place ≡ Some offer
    → test offer ≡ false
unset test offers flags are none place offer here =
    let there = are place offer here in
    sym (get_or_from_slice_get flags place (test offer) false there)
    ∙ All-get_or (λ (flag : Bool). flag ≡ false) flags place false (slice_get_within flags place (test offer) there) none

-- a body that makes and cancels no offer leaves all as they are
pub offers_stay : (parts : Parts) (txs : List Tx) (flags : List Bool)
    → AreFlags (λ offer. list_any (same_key (key_of offer)) (cancelled txs)) parts.offers flags
    → All (λ flag. flag ≡ false) flags → length (made txs) ≡ 0 → parts.offers ≡ offers_after parts txs
offers_stay parts txs flags are none no_more =
    let test : Offer → Bool = λ offer. list_any (same_key (key_of offer)) (cancelled txs) in
    sym (all_kept test parts.offers (unset test parts.offers flags are none))
    ∙ ap (λ (new : List Offer). put_offers new (kept_offers parts.offers txs)) (sym (nil_from_length (made txs) no_more))

-- ---- the offers after the body

rising : (offers : List Offer) → IsSortedByKey key_of key_cmp offers → (i j : ℕ) (d : Offer) → i ≤ j
    → j < length offers → key_before (key_of (get_or offers j d)) (key_of (get_or offers i d)) ≡ false
rising offers sorted i j d le lt =
    sorted_far (λ one other. key_before (key_of one) (key_of other)) (ranks_by key_cmp_total key_of) offers sorted i j d
    le lt

pub offers_are : (parts : Parts) (txs : List Tx) → IsLedger parts → IsAdmissibleIn 2 parts txs
    → (sorted : List Offer) → IsPermutation (made txs) sorted → IsSortedByKey key_of key_cmp sorted
    → merged (kept_offers parts.offers txs) sorted ≡ offers_after parts txs
offers_are parts txs keeps body sorted moved by_key =
    let kept = kept_offers parts.offers txs in
    let after = merged kept sorted in
    let whole : IsPermutation (made txs ++ kept) (offers_after parts txs) =
    subst (IsPermutation (made txs ++ kept)) (sym (put_offers_are (made txs) kept))
    (put_all_moves key_of key_before (made txs) kept) in
    let ordered = filter_in_order key_of key_before before_both
    (λ offer. not (list_any (same_key (key_of offer)) (cancelled txs))) None parts.offers keeps.by_key in
    sym (one_list key_of key_before same_key same_key_is (λ a. same_key_from a a refl) before_both
    (λ a e. let differ = before_differs a a e in let self = same_key_from a a refl in absurd cc)
    (offers_after parts txs) after
    (keys_in_order 2 parts txs keeps body)
    (rising after (merged_sorted kept sorted ordered by_key))
    (IsPermutation-trans (offers_after parts txs) (made txs ++ kept) after
    (IsPermutation-sym (made txs ++ kept) (offers_after parts txs) whole)
    (IsPermutation-trans (made txs ++ kept) (sorted ++ kept) after
    (IsPermutation-append_left kept (made txs) sorted moved) (merged_moves kept sorted))))
