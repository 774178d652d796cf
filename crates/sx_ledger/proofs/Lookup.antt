-- What is known of an account or an offer once a search has found it, or has found that it is not there.
use Rattle.std.proofs.Common.{◌≡◌, ◌≢◌, ℕ, zero, suc, ◌+◌, ◌<◌, Bool, true, false, ◌&&◌, ◌||◌, List, [], ◌∷◌, map}
use Rattle.std.proofs.Common.{length, get_or, Option, Some, None, refl, sym, ap, subst, ◌∙◌, arith}
use Rattle.std.specs.Prelude.{slice_get, Contains, IfSome, IfNone, nat_eq}
use Rattle.std.specs.List.{list_any}
use Rattle.std.specs.Option.{option_map, is_some}
use Rattle.std.specs.List.Sorted.{IsStrictlyIncreasing}
use Rattle.std.proofs.lemmas.Bool.{ne_eqb, eq-eqb, cond-true, cond-false, or_from, or_left, or_right}
use Rattle.std.proofs.lemmas.Bool.{false_from_ne_true}
use Rattle.std.proofs.lemmas.Option.{slice_get-map, slice_get_within, slice_get_read, get_or_from_slice_get, same_Some}
use Rattle.sx_ledger.specs.declared.account.Account.{Account}
use Rattle.sx_ledger.specs.declared.key.Key.{Key}
use Rattle.sx_ledger.specs.declared.offer.Offer.{Offer}
use Rattle.sx_ledger.specs.Ledger.{has_owner, ids, keys}
use Rattle.sx_ledger.specs.Order.{key_of, same_key}
use Rattle.sx_ledger.specs.Static.{has_account, has_offer, window_of}
use Rattle.sx_ledger.proofs.KeyOrder.{same_key_is, same_key_from}
use Rattle.sx_tx.specs.Window.{is_used}

-- ---- tests of a list

-- one entry passes
pub any_true : {X : Type 0} (test : X → Bool) (xs : List X) (place : ℕ) (entry : X) → slice_get xs place ≡ Some entry
    → test entry ≡ true → list_any test xs ≡ true
any_true test [] place entry at passes = absurd cc
any_true test (x ∷ xs) zero entry at passes =
    or_left (test x) (list_any test xs) (ap test (same_Some x entry at) ∙ passes)
any_true test (x ∷ xs) (suc place) entry at passes =
    or_right (test x) (list_any test xs) (any_true test xs place entry at passes)

-- no entry passes
pub any_false : {X : Type 0} (test : X → Bool) (xs : List X)
    → ((place : ℕ) (entry : X) → slice_get xs place ≡ Some entry → test entry ≡ false) → list_any test xs ≡ false
any_false test [] fails = refl
any_false test (x ∷ xs) fails =
    or_from (test x) (list_any test xs) (fails 0 x refl)
    (any_false test xs (λ place entry at. fails (suc place) entry at))

-- ---- accounts by id

-- each id is greater than the one before it
abbrev Above : ℕ → List Account → Type 0
Above bound [] = Unit {0}
Above bound (account ∷ accounts) = (bound < account.id.0) × Above account.id.0 accounts

abbrev Ascends : List Account → Type 0
Ascends [] = Unit {0}
Ascends (account ∷ accounts) = Above account.id.0 accounts

above_from : (account : Account) (accounts : List Account) → IsStrictlyIncreasing (ids (account ∷ accounts))
    → Above account.id.0 accounts
above_from account [] up = tt
above_from account (next ∷ accounts) up = (
  up 0 (omega arith),
  above_from next accounts (λ k lt. let step : suc k + 1 ≡ suc (k + 1) =
      omega arith in rw step at (up (suc k) (omega arith))),
)

ascends_from : (accounts : List Account) → IsStrictlyIncreasing (ids accounts) → Ascends accounts
ascends_from [] up = tt
ascends_from (account ∷ accounts) up = above_from account accounts up

ascends_after : (bound : ℕ) (accounts : List Account) → Above bound accounts → Ascends accounts
ascends_after bound [] above = tt
ascends_after bound (account ∷ accounts) above = above.1

above_at : (bound : ℕ) (accounts : List Account) (place : ℕ) (entry : Account) → Above bound accounts
    → slice_get accounts place ≡ Some entry → bound < entry.id.0
above_at bound [] place entry above at = absurd cc
above_at bound (account ∷ accounts) zero entry above at =
    subst (λ (x : Account). bound < x.id.0) (same_Some account entry at) above.0
above_at bound (account ∷ accounts) (suc place) entry above at =
    let later : account.id.0 < entry.id.0 = above_at account.id.0 accounts place entry above.1 at in
    omega (arith, above.0)

-- the account found is the only one that a test of its id passes
any_at : (test : Account → Bool) (accounts : List Account) (place : ℕ) (entry : Account) → Ascends accounts
    → slice_get accounts place ≡ Some entry
    → ((other : Account) → other.id.0 ≢ entry.id.0 → test other ≡ false) → list_any test accounts ≡ test entry
any_at test [] place entry up at others = absurd cc
any_at test (account ∷ accounts) zero entry up at others =
    let same : account ≡ entry = same_Some account entry at in
    let same_id : account.id.0 ≡ entry.id.0 = ap (λ (x : Account). x.id.0) same in
    let none : list_any test accounts ≡ false = any_false test accounts (λ place other here.
    let later : account.id.0 < other.id.0 = above_at account.id.0 accounts place other up here in
    others other (λ equal. absurd (omega arith))) in
    rw none (or_false (test account) ∙ ap test same)
  where
    or_false : (b : Bool) → (b || false) ≡ b
    or_false true = refl
    or_false false = refl
any_at test (account ∷ accounts) (suc place) entry up at others =
    let later : account.id.0 < entry.id.0 = above_at account.id.0 accounts place entry up at in
    let not_here : test account ≡ false = others account (λ equal. absurd (omega arith)) in
    rw not_here (any_at test accounts place entry (ascends_after account.id.0 accounts up) at others)

window_at : (accounts : List Account) (place : ℕ) (entry : Account) → Ascends accounts
    → slice_get accounts place ≡ Some entry → window_of accounts entry.id.0 ≡ entry.window
window_at [] place entry up at = absurd cc
window_at (account ∷ accounts) zero entry up at =
    let same : account ≡ entry = same_Some account entry at in
    cond-true _ _ _ (eq-eqb account.id.0 entry.id.0 (ap (λ (x : Account). x.id.0) same))
    ∙ ap (λ (x : Account). x.window) same
window_at (account ∷ accounts) (suc place) entry up at =
    let later : account.id.0 < entry.id.0 = above_at account.id.0 accounts place entry up at in
    cond-false _ _ _ (ne_eqb account.id.0 entry.id.0 (λ equal. absurd (omega arith)))
    ∙ window_at accounts place entry (ascends_after account.id.0 accounts up) at

-- an account of this id, where accounts stand by id
module _ (accounts : List Account) (place : ℕ) (entry : Account) (at : slice_get accounts place ≡ Some entry) where
  pub known : has_account accounts entry.id.0 ≡ true
  known = any_true (λ account. nat_eq account.id.0 entry.id.0) accounts place entry at
      (eq-eqb entry.id.0 entry.id.0 refl)

  module _ (up : IsStrictlyIncreasing (ids accounts)) where
    pub window_is : window_of accounts entry.id.0 ≡ entry.window
    window_is = window_at accounts place entry (ascends_from accounts up) at

    pub owner_is : (offer : Offer) → offer.account.0 ≡ entry.id.0
        → has_owner accounts offer ≡ is_used entry.window offer.seq
    owner_is offer same =
        any_at (λ account. nat_eq account.id.0 offer.account.0 && is_used account.window offer.seq)
        accounts place entry (ascends_from accounts up) at
        (λ other differs. rw (ne_eqb other.id.0 offer.account.0 (λ equal. differs (equal ∙ same))) refl)
        ∙ rw (eq-eqb entry.id.0 offer.account.0 (sym same)) refl

-- ---- what a search answers

-- the entry at the place of a mark
pub entry_at : {X M : Type 0} (mark : X → M) (xs : List X) (place : ℕ) (m : M)
    → slice_get (map mark xs) place ≡ Some m → (entry : X) × (slice_get xs place ≡ Some entry) × (m ≡ mark entry)
entry_at mark [] place m at = absurd cc
entry_at mark (x ∷ xs) zero m at = (x, refl, sym (same_Some (mark x) m at))
entry_at mark (x ∷ xs) (suc place) m at = entry_at mark xs place m at

pub mark_is : {X M : Type 0} (mark : X → M) (xs : List X) (place : ℕ) (m : M) (entry : X)
    → slice_get xs place ≡ Some entry → slice_get (map mark xs) place ≡ Some m → m ≡ mark entry
mark_is mark [] place m entry at found = absurd cc
mark_is mark (x ∷ xs) zero m entry at found = sym (same_Some (mark x) m found) ∙ ap mark (same_Some x entry at)
mark_is mark (x ∷ xs) (suc place) m entry at found = mark_is mark xs place m entry at found

-- what stands in the list is the element that an index gives
pub read_at : {X M : Type 0} (mark : X → M) (xs : List X) (place : ℕ) (m : M) (entry : X)
    → slice_get (map mark xs) place ≡ Some m → entry ≡ get_or xs place entry → slice_get xs place ≡ Some entry
read_at mark xs place m entry found is =
    let other = entry_at mark xs place m found in
    slice_get_read xs (length xs) place entry refl (slice_get_within xs place other.0 other.1) is

holds_mark : {X M : Type 0} (mark : X → M) (xs : List X) (place : ℕ) (entry : X) → slice_get xs place ≡ Some entry
    → Contains (map mark xs) (mark entry)
holds_mark mark xs place entry at =
    let there : slice_get (map mark xs) place ≡ Some (mark entry) =
    slice_get-map mark xs place ∙ ap (option_map mark) at in (
      place,
      slice_get_within (map mark xs) place (mark entry) there,
      get_or_from_slice_get (map mark xs) place (mark entry) (mark entry) there,
    )

pub is_known : (accounts : List Account) (place id : ℕ) → slice_get (ids accounts) place ≡ Some id
    → has_account accounts id ≡ true
is_known accounts place id found =
    let e = entry_at (λ (account : Account). account.id.0) accounts place id found in
    ap (has_account accounts) e.2 ∙ known accounts place e.0 e.1

no_mark : {X M : Type 0} (mark : X → M) (xs : List X) (m : M) → (Contains (map mark xs) m → ⊥)
    → (place : ℕ) (entry : X) → slice_get xs place ≡ Some entry → mark entry ≡ m → ⊥
no_mark mark xs m absent place entry at same =
    absent (subst (Contains (map mark xs)) same (holds_mark mark xs place entry at))

pub is_unknown : (accounts : List Account) (id : ℕ) → (Contains (ids accounts) id → ⊥)
    → has_account accounts id ≡ false
is_unknown accounts id absent =
    any_false (λ account. nat_eq account.id.0 id) accounts
    (λ place entry at. ne_eqb entry.id.0 id
    (no_mark (λ (account : Account). account.id.0) accounts id absent place entry at))

pub no_owner : (accounts : List Account) (offer : Offer) → (Contains (ids accounts) offer.account.0 → ⊥)
    → has_owner accounts offer ≡ false
no_owner accounts offer absent =
    any_false (λ account. nat_eq account.id.0 offer.account.0 && is_used account.window offer.seq) accounts
    (λ place entry at. rw
    (ne_eqb entry.id.0 offer.account.0
    (no_mark (λ (account : Account). account.id.0) accounts offer.account.0 absent place entry at)) refl)

pub offer_known : (offers : List Offer) (place : ℕ) (key : Key) → slice_get (keys offers) place ≡ Some key
    → has_offer offers key ≡ true
offer_known offers place key found =
    let e = entry_at key_of offers place key found in
    any_true (λ offer. same_key (key_of offer) key) offers place e.0 e.1 (same_key_from (key_of e.0) key (sym e.2))

pub offer_unknown : (offers : List Offer) (key : Key) → (Contains (keys offers) key → ⊥)
    → has_offer offers key ≡ false
offer_unknown offers key absent =
    any_false (λ offer. same_key (key_of offer) key) offers
    (λ place entry at. false_from_ne_true _
    (λ same. no_mark key_of offers key absent place entry at (same_key_is (key_of entry) key same)))

-- what a search for an account answers tells whether there is one
pub account_told : (accounts : List Account) (id : ℕ) (found : Option ℕ)
    → IfSome found (λ place. slice_get (ids accounts) place ≡ Some id) → IfNone found (Contains (ids accounts) id → ⊥)
    → is_some found ≡ has_account accounts id
account_told accounts id (Some place) here absent = sym (is_known accounts place id here)
account_told accounts id None here absent = sym (is_unknown accounts id absent)

pub offer_told : (offers : List Offer) (key : Key) (found : Option ℕ)
    → IfSome found (λ place. slice_get (keys offers) place ≡ Some key) → IfNone found (Contains (keys offers) key → ⊥)
    → is_some found ≡ has_offer offers key
offer_told offers key (Some place) here absent = sym (offer_known offers place key here)
offer_told offers key None here absent = sym (offer_unknown offers key absent)
