-- What the offers have in all, where some are cancelled and some are made.
use Rattle.std.proofs.Common.{◌≡◌, ℕ, ◌+◌, true, false, cond, ◌==◌, List, [], ◌∷◌, sum_by, Option, Some, None, inl}
use Rattle.std.proofs.Common.{inr, refl, sym, ap, ap₂, subst, ◌∙◌, arith}
use Rattle.std.specs.List.{AllByRecursion, IsDistinct, list_any}
use Rattle.std.proofs.lemmas.Bool.{cases_Bool, or_from}
use Rattle.std.proofs.lemmas.List.Sums.{sum_by-cons}
use Rattle.std.proofs.lemmas.Map.Keys.{IsDistinct-head, IsDistinct-tail}
use Rattle.sx_bytes.specs.Grammar.{in_order, may_follow}
use Rattle.sx_bytes.proofs.Ordered.{and_parts}
use Rattle.sx_ledger.specs.declared.key.Key.{Key}
use Rattle.sx_ledger.specs.declared.offer.Offer.{Offer}
use Rattle.sx_ledger.specs.Body.{cancelled, kept_offers, put_offer, put_offers}
use Rattle.sx_ledger.specs.Effects.{amount_of}
use Rattle.sx_ledger.specs.Ledger.{keys, offered}
use Rattle.sx_ledger.specs.Order.{key_before, key_of, offer_before, same_key}
use Rattle.sx_ledger.proofs.KeyOrder.{before_both, before_differs, same_key_is}
use Rattle.sx_ledger.proofs.ListSums.{sum_by-add, sum_by-kept, sum_by-same}
use Rattle.sx_tx.specs.declared.tx.Tx.{Tx}

-- ---- offers that are made

put_one : (f : Offer → ℕ) (new : Offer) (offers : List Offer)
    → sum_by f (put_offer new offers) ≡ f new + sum_by f offers
put_one f new [] = sum_by-cons f new []
put_one f new (offer ∷ offers) =
    elim (cases_Bool (offer_before new offer)) [
      | inl before ↦ rw before (sum_by-cons f new (offer ∷ offers))
      | inr later ↦ rw later
          (omega (
            arith,
            sum_by-cons f offer (put_offer new offers),
            sum_by-cons f offer offers,
            put_one f new offers,
          ))
    ]

pub put_all : (f : Offer → ℕ) (new offers : List Offer)
    → sum_by f (put_offers new offers) ≡ sum_by f new + sum_by f offers
put_all f [] offers = omega arith
put_all f (one ∷ new) offers =
    omega (arith, put_one f one (put_offers new offers), put_all f new offers, sum_by-cons f one new)

-- ---- keys that differ

-- keys in order are all after the first
all_after : (x first : Key) (ks : List Key) → key_before x first ≡ true → in_order key_before (Some first) ks ≡ true
    → AllByRecursion (λ k. same_key k x ≡ false) (first ∷ ks)
all_after x first [] before ordered = (before_differs x first before, tt)
all_after x first (next ∷ ks) before ordered =
    let both = and_parts (key_before first next) (in_order key_before (Some next) ks) ordered in
    (before_differs x first before, all_after x next ks (before_both x first next before both.0) both.1)

others_differ : (x : Key) (ks : List Key) → in_order key_before (Some x) ks ≡ true
    → AllByRecursion (λ k. same_key k x ≡ false) ks
others_differ x [] ordered = tt
others_differ x (first ∷ ks) ordered =
    let both = and_parts (key_before x first) (in_order key_before (Some first) ks) ordered in
    all_after x first ks both.0 both.1

-- ---- offers that are cancelled

-- what the offer has, if this is its key
abbrev if_key : ℕ → Key → Offer → ℕ
if_key asset key offer = cond (same_key (key_of offer) key) (offered asset offer) 0

none_has : (asset : ℕ) (key : Key) (offers : List Offer) → AllByRecursion (λ k. same_key k key ≡ false) (keys offers)
    → sum_by (if_key asset key) offers ≡ 0
none_has asset key [] differ = refl
none_has asset key (offer ∷ offers) differ =
    let first : if_key asset key offer ≡ 0 = rw differ.0 refl in
    omega (arith, sum_by-cons (if_key asset key) offer offers, none_has asset key offers differ.1)

-- the units of an asset that the end of this offer sets free
abbrev pub freed : List Offer → ℕ → Key → ℕ
freed offers asset key = cond (key.sell == asset) (amount_of offers key) 0

freed_more : (asset : ℕ) (key : Key) (offer : Offer) (offers : List Offer) → same_key (key_of offer) key ≡ false
    → freed (offer ∷ offers) asset key ≡ freed offers asset key
freed_more asset key offer offers other = rw other refl

one_has : (asset : ℕ) (key : Key) (offers : List Offer) (before : Option Key)
    → in_order key_before before (keys offers) ≡ true
    → sum_by (if_key asset key) offers ≡ freed offers asset key
one_has asset key [] before ordered = elim (cases_Bool (key.sell == asset)) [ inl e ↦ rw e refl | inr e ↦ rw e refl ]
one_has asset key (offer ∷ offers) before ordered =
    let both = and_parts (may_follow key_before before (key_of offer))
    (in_order key_before (Some (key_of offer)) (keys offers)) ordered in
    let split = sum_by-cons (if_key asset key) offer offers in
    elim (cases_Bool (same_key (key_of offer) key)) [
      | inl same ↦
          let is : key_of offer ≡ key = same_key_is (key_of offer) key same in
          let differ : AllByRecursion (λ k. same_key k key ≡ false) (keys offers) =
          subst (λ (x : Key). AllByRecursion (λ k. same_key k x ≡ false) (keys offers)) is
          (others_differ (key_of offer) (keys offers) both.1) in
          let here : if_key asset key offer ≡ offered asset offer = rw same refl in
          let there : freed (offer ∷ offers) asset key ≡ cond (key.sell == asset) offer.amount 0 = rw same refl in
          let sells : offer.sell ≡ key.sell = ap (λ (k : Key). k.sell) is in
          let agree : offered asset offer ≡ cond (key.sell == asset) offer.amount 0 =
          ap (λ (s : ℕ). cond (s == asset) offer.amount 0) sells in
          omega (arith, none_has asset key offers differ)
      | inr other ↦
          let here : if_key asset key offer ≡ 0 = rw other refl in
          let there = freed_more asset key offer offers other in
          omega (arith, one_has asset key offers (Some (key_of offer)) both.1)
    ]

-- what the offer has, if its key is one of these
abbrev if_among : ℕ → List Key → Offer → ℕ
if_among asset ks offer = cond (list_any (same_key (key_of offer)) ks) (offered asset offer) 0

none_among : (x k : Key) (ks : List Key) → same_key x k ≡ true → AllByRecursion (λ y. same_key k y ≡ false) ks
    → list_any (same_key x) ks ≡ false
none_among x k [] same differ = refl
none_among x k (y ∷ ks) same differ =
    let is : x ≡ k = same_key_is x k same in
    or_from (same_key x y) (list_any (same_key x) ks) (ap (λ (z : Key). same_key z y) is
    ∙ differ.0) (none_among x k ks same differ.1)

among_more : (asset : ℕ) (key : Key) (ks : List Key) (offer : Offer) → AllByRecursion (λ y. same_key key y ≡ false) ks
    → if_among asset (key ∷ ks) offer ≡ if_key asset key offer + if_among asset ks offer
among_more asset key ks offer differ =
    elim (cases_Bool (same_key (key_of offer) key)) [
      | inl same ↦ let none = none_among (key_of offer) key ks same differ in rw (same, none) (omega arith)
      | inr other ↦ rw other (omega arith)
    ]

pub cancelled_sum : (asset : ℕ) (offers : List Offer) → in_order key_before None (keys offers) ≡ true
    → (ks : List Key) → IsDistinct same_key ks
    → sum_by (if_among asset ks) offers ≡ sum_by (freed offers asset) ks
cancelled_sum asset offers ordered [] distinct = nothing offers
  where
    nothing : (offers : List Offer) → sum_by (if_among asset []) offers ≡ 0
    nothing [] = refl
    nothing (offer ∷ offers) = omega (arith, sum_by-cons (if_among asset []) offer offers, nothing offers)
cancelled_sum asset offers ordered (key ∷ ks) distinct =
    let rest = cancelled_sum asset offers ordered ks (IsDistinct-tail same_key key ks distinct) in
    sum_by-same (if_among asset (key ∷ ks)) (λ offer. if_key asset key offer + if_among asset ks offer) offers
    (λ offer. among_more asset key ks offer (IsDistinct-head same_key key ks distinct))
    ∙ sum_by-add (if_key asset key) (if_among asset ks) offers
    ∙ ap₂ ◌+◌ (one_has asset key offers None ordered) rest
    ∙ sym (sum_by-cons (freed offers asset) key ks)

-- what is kept and what was cancelled make up what was offered
pub kept_sum : (asset : ℕ) (offers : List Offer) (txs : List Tx) → in_order key_before None (keys offers) ≡ true
    → IsDistinct same_key (cancelled txs)
    → sum_by (offered asset) (kept_offers offers txs) + sum_by (freed offers asset) (cancelled txs)
    ≡ sum_by (offered asset) offers
kept_sum asset offers txs ordered distinct =
    let moved = cancelled_sum asset offers ordered (cancelled txs) distinct in
    omega (
      arith,
      moved,
      sum_by-kept (offered asset) (λ offer. list_any (same_key (key_of offer)) (cancelled txs))
          offers,
    )
