-- Entries that are put, one after the other, each before the first one that it stands before.
use Rattle.std.proofs.Common.{◌≡◌, ℕ, ◌+◌, Bool, true, false, cond, ◌||◌, List, [], ◌∷◌, length, map, Option, Some}
use Rattle.std.proofs.Common.{None, inl, inr, refl, ap, ◌∙◌, arith}
use Rattle.std.specs.List.{AllByRecursion, filter, list_any}
use Rattle.std.proofs.lemmas.Bool.{and_from, cases_Bool, or_cases, or_left, or_right}
use Rattle.sx_bytes.specs.Grammar.{in_order, may_follow}
use Rattle.sx_bytes.proofs.Ordered.{and_parts}
use Rattle.sx_ledger.specs.declared.account.Account.{Account}
use Rattle.sx_ledger.specs.declared.offer.Offer.{Offer}
use Rattle.sx_ledger.specs.Body.{put_account, put_accounts, put_offer, put_offers}
use Rattle.sx_ledger.specs.Order.{key_before, key_of}
use Rattle.std.specs.Prelude.{nat_lt}

pub all_mapped : {X Y : Type 0} (P : Y → Type 0) (f : X → Y) (xs : List X) → AllByRecursion (λ x. P (f x)) xs
    → AllByRecursion P (map f xs)
all_mapped P f [] all = tt
all_mapped P f (x ∷ xs) all = (all.0, all_mapped P f xs all.1)

module _ {X K : Type 0} (mark : X → K) (before : K → K → Bool) where
  abbrev pub put : X → List X → List X
  put new [] = new ∷ []
  put new (x ∷ xs) = cond (before (mark new) (mark x)) (new ∷ x ∷ xs) (x ∷ put new xs)

  abbrev pub put_all : List X → List X → List X
  put_all [] xs = xs
  put_all (new ∷ others) xs = put new (put_all others xs)

  -- ---- what is put there, and what was there

  all_put : (P : X → Type 0) (new : X) (xs : List X) → P new → AllByRecursion P xs → AllByRecursion P (put new xs)
  all_put P new [] here all = (here, tt)
  all_put P new (x ∷ xs) here all =
      elim (cases_Bool (before (mark new) (mark x))) [
        | inl first ↦ rw first (here, all)
        | inr later ↦ rw later (all.0, all_put P new xs here all.1)
      ]

  pub all_put_all : (P : X → Type 0) (new xs : List X) → AllByRecursion P new → AllByRecursion P xs
      → AllByRecursion P (put_all new xs)
  all_put_all P [] xs news all = all
  all_put_all P (new ∷ others) xs news all =
      all_put P new (put_all others xs) news.0 (all_put_all P others xs news.1 all)

  any_put : (test : X → Bool) (new : X) (xs : List X) → list_any test xs ≡ true → list_any test (put new xs) ≡ true
  any_put test new [] some = absurd cc
  any_put test new (x ∷ xs) some =
      elim (cases_Bool (before (mark new) (mark x))) [
        | inl first ↦ rw first (or_right (test new) (test x || list_any test xs) some)
        | inr later ↦ rw later (elim (or_cases (test x) (list_any test xs) some) [
          | inl here ↦ or_left (test x) (list_any test (put new xs)) here
          | inr there ↦ or_right (test x) (list_any test (put new xs)) (any_put test new xs there)
        ])
      ]

  pub any_put_all : (test : X → Bool) (new xs : List X) → list_any test xs ≡ true
      → list_any test (put_all new xs) ≡ true
  any_put_all test [] xs some = some
  any_put_all test (new ∷ others) xs some = any_put test new (put_all others xs) (any_put_all test others xs some)

  length-put : (new : X) (xs : List X) → length (put new xs) ≡ length xs + 1
  length-put new [] = omega arith
  length-put new (x ∷ xs) =
      elim (cases_Bool (before (mark new) (mark x))) [
        | inl first ↦ rw first (omega arith)
        | inr later ↦ rw later (omega (arith, length-put new xs))
      ]

  pub length-put_all : (new xs : List X) → length (put_all new xs) ≡ length new + length xs
  length-put_all [] xs = omega arith
  length-put_all (new ∷ others) xs = omega (arith, length-put new (put_all others xs), length-put_all others xs)

  -- ---- the order

  -- where the new one doesn't stand before an entry, the entry stands before it
  abbrev pub Apart : X → X → Type 0
  Apart new x = before (mark new) (mark x) ≡ false → before (mark x) (mark new) ≡ true

  put_in_order : (previous : Option K) (new : X) (xs : List X) → may_follow before previous (mark new) ≡ true
      → AllByRecursion (Apart new) xs
      → in_order before previous (map mark xs) ≡ true → in_order before previous (map mark (put new xs)) ≡ true
  put_in_order previous new [] follows apart ordered = and_from _ _ follows refl
  put_in_order previous new (x ∷ xs) follows apart ordered =
      let both = and_parts (may_follow before previous (mark x)) (in_order before (Some (mark x)) (map mark xs))
      ordered in
      elim (cases_Bool (before (mark new) (mark x))) [
        | inl first ↦ rw first (and_from _ _ follows (and_from _ _ first both.1))
        | inr later ↦ rw later
            (and_from _ _ both.0 (put_in_order (Some (mark x)) new xs (apart.0 later) apart.1 both.1))
      ]

  -- each new one is apart from the others, and from what is there
  abbrev pub AreApart : List X → List X → Type 0
  AreApart [] xs = Unit {0}
  AreApart (new ∷ others) xs = AllByRecursion (Apart new) others × AllByRecursion (Apart new) xs × AreApart others xs

  pub put_all_in_order : (new xs : List X) → AreApart new xs → in_order before None (map mark xs) ≡ true
      → in_order before None (map mark (put_all new xs)) ≡ true
  put_all_in_order [] xs apart ordered = ordered
  put_all_in_order (new ∷ others) xs apart ordered =
      put_in_order None new (put_all others xs) refl (all_put_all (Apart new) others xs apart.0 apart.1)
      (put_all_in_order others xs apart.2 ordered)

  -- ---- what a filter keeps is in order

  module _ (through : (x y z : K) → before x y ≡ true → before y z ≡ true → before x z ≡ true) where
    without_first : (previous : Option K) (x : K) (ks : List K) → may_follow before previous x ≡ true
        → in_order before (Some x) ks ≡ true → in_order before previous ks ≡ true
    without_first previous x [] follows ordered = refl
    without_first None x (k ∷ ks) follows ordered = (and_parts (before x k) (in_order before (Some k) ks) ordered).1
    without_first (Some y) x (k ∷ ks) follows ordered =
        let both = and_parts (before x k) (in_order before (Some k) ks) ordered in
        and_from _ _ (through y x k follows both.0) both.1

    pub filter_in_order : (passes : X → Bool) (previous : Option K) (xs : List X)
        → in_order before previous (map mark xs) ≡ true
        → in_order before previous (map mark (filter passes xs)) ≡ true
    filter_in_order passes previous [] ordered = refl
    filter_in_order passes previous (x ∷ xs) ordered =
        let both = and_parts (may_follow before previous (mark x)) (in_order before (Some (mark x)) (map mark xs))
        ordered in
        elim (cases_Bool (passes x)) [
          | inl kept ↦ rw kept (and_from _ _ both.0 (filter_in_order passes (Some (mark x)) xs both.1))
          | inr dropped ↦ rw dropped
              (filter_in_order passes previous xs (without_first previous (mark x) (map mark xs) both.0 both.1))
        ]

-- ---- accounts by id, and offers by key

abbrev pub id_of : Account → ℕ
id_of account = account.id.0

put_account_is : (new : Account) (accounts : List Account) → put_account new accounts ≡ put id_of nat_lt new accounts
put_account_is new [] = refl
put_account_is new (account ∷ accounts) =
    ap (λ (rest : List Account). cond (nat_lt new.id.0 account.id.0) (new ∷ account ∷ accounts) (account ∷ rest))
    (put_account_is new accounts)

pub put_accounts_are : (new accounts : List Account) → put_accounts new accounts ≡ put_all id_of nat_lt new accounts
put_accounts_are [] accounts = refl
put_accounts_are (one ∷ new) accounts = put_account_is one (put_accounts new accounts)
    ∙ ap (put id_of nat_lt one) (put_accounts_are new accounts)

put_offer_is : (new : Offer) (offers : List Offer) → put_offer new offers ≡ put key_of key_before new offers
put_offer_is new [] = refl
put_offer_is new (offer ∷ offers) =
    ap (λ (rest : List Offer). cond (key_before (key_of new) (key_of offer)) (new ∷ offer ∷ offers) (offer ∷ rest))
    (put_offer_is new offers)

pub put_offers_are : (new offers : List Offer) → put_offers new offers ≡ put_all key_of key_before new offers
put_offers_are [] offers = refl
put_offers_are (one ∷ new) offers = put_offer_is one (put_offers new offers)
    ∙ ap (put key_of key_before one) (put_offers_are new offers)
