-- Entries of debits and credits: to which account they are posted, and which sums have them.
use Rattle.std.proofs.Common.{◌≡◌, ℕ, zero, suc, ◌+◌, ◌<◌, Bool, true, false, ◌==◌, List, []}
use Rattle.std.proofs.Common.{◌∷◌, ◌++◌, Option, None, Contains, Some, Ok, inl, inr, refl, sym, ap}
use Rattle.std.proofs.Common.{◌∙◌, arith}
use Rattle.std.specs.Prelude.{slice_get, Result, Err, OnOk, nat_le}
use Rattle.std.specs.List.{AllByRecursion}
use Rattle.std.specs.List.Sorted.{IsStrictlyIncreasing}
use Rattle.std.proofs.lemmas.Bool.{and_parts, cases_Bool, false_from_ne_true, leb-false, not-false, or_parts}
use Rattle.std.proofs.lemmas.Bool.Decides.{same_from_decides, Decides-eqb, Decides-like}
use Rattle.std.proofs.lemmas.Option.{get_or_from_slice_get, none-some, same_Some, slice_get_within}
use Rattle.sx_base.specs.declared.account_id.AccountId.{AccountId}
use Rattle.sx_tally.specs.declared.entry.Entry.{Entry}
use Rattle.sx_tally.specs.Postings.{IsEntry, units_at}
use Rattle.sx_tally.proofs.KeysApart.{before_later}
use Rattle.sx_ledger.specs.declared.account.Account.{Account}
use Rattle.sx_ledger.specs.declared.key.Key.{Key}
use Rattle.sx_ledger.specs.declared.offer.Offer.{Offer}
use Rattle.sx_ledger.specs.declared.parts.Parts.{Parts}
use Rattle.sx_ledger.specs.declared.statics.Static.{Static}
use Rattle.sx_ledger.specs.Effects.{Posting, amount_of, credit, credits, debit, debit_of, debits, posted}
use Rattle.sx_ledger.specs.Ledger.{assets_of, ids, keys}
use Rattle.sx_ledger.specs.Static.{cancels_unknown, first_holding, has_account, has_offer, names_beyond, pays_unknown}
use Rattle.sx_ledger.specs.Static.{static_list, static_of}
use Rattle.sx_bytes.specs.Grammar.{in_order, may_follow}
use Rattle.sx_ledger.specs.Order.{key_before, key_of, same_key}
use Rattle.sx_ledger.proofs.KeyOrder.{before_differs, same_key_from, same_key_is}
use Rattle.sx_ledger.proofs.PlacesOfIds.{same_place, stands}
use Rattle.sx_ledger.proofs.Postings.{credits_append, debits_append}
use Rattle.sx_ledger.proofs.PostingTotals.{passes}
use Rattle.sx_tx.specs.declared.kind.Kind.{Kind}
use Rattle.sx_tx.specs.declared.kind.Kind.TheVariants as kind
use Rattle.sx_tx.specs.declared.tx.Tx.{Tx}

-- ---- one entry

-- two places are one exactly where the ids there are one
same_test : (xs : List ℕ) → IsStrictlyIncreasing xs → (p q x y : ℕ) → slice_get xs p ≡ Some x
    → slice_get xs q ≡ Some y → (p == q) ≡ (x == y)
same_test xs up p q x y here there =
    same_from_decides (p == q) (x == y) (Decides-eqb p q)
    (Decides-like (x == y)
    (λ (e : x ≡ y). same_place xs up p q y (here ∙ ap (λ (z : ℕ). Some z) e) there)
    (λ (e : p ≡ q). same_Some x y (sym here ∙ ap (slice_get xs) e ∙ there))
    (Decides-eqb x y))

-- an entry has at each place what is posted to the account there
pub entered_units : (parts : Parts) → IsStrictlyIncreasing (ids parts.accounts) → (posting : Option Posting)
    (entry : Entry) → IsEntry parts posting entry → (place account asset : ℕ)
    → slice_get (ids parts.accounts) place ≡ Some account
    → units_at entry place asset ≡ posted posting account asset
entered_units parts up posting entry is place account asset there =
    let test : (entry.place == place) ≡ (is.account == account) =
    same_test (ids parts.accounts) up entry.place place is.account account is.there there in
    rw (is.is, test) refl

-- with one transaction more
pub debits_more : (before : List Tx) (tx : Tx) (account asset : ℕ)
    → debits (before ++ tx ∷ []) account asset ≡ debits before account asset + posted (debit tx) account asset
debits_more before tx account asset = omega (arith, debits_append before (tx ∷ []) account asset)

pub credits_more : (offers : List Offer) (before : List Tx) (tx : Tx) (account asset : ℕ)
    → credits offers (before ++ tx ∷ []) account asset
    ≡ credits offers before account asset + posted (credit offers tx) account asset
credits_more offers before tx account asset = omega (arith, credits_append offers before (tx ∷ []) account asset)

-- ---- which credit it is

pub contained : (accounts : List Account) (id : ℕ) → has_account accounts id ≡ true → Contains (ids accounts) id
contained accounts id there =
    let at = stands accounts id there in (
      at.place,
      slice_get_within (ids accounts) at.place id at.there,
      get_or_from_slice_get (ids accounts) at.place id id at.there,
    )

none_holds : (reasons : List (Bool × Static)) → first_holding reasons ≡ Ok tt
    → AllByRecursion (λ reason. reason.0 ≡ false) reasons
none_holds [] pass = tt
none_holds (reason ∷ reasons) pass =
    elim (cases_Bool reason.0) [
      | inl holds ↦ let fails : Err reason.1 ≡ Ok tt = rw holds at pass in absurd cc
      | inr not_so ↦ (not_so, none_holds reasons (rw not_so at pass))
    ]

-- a payment that passes is of an asset that is there, to an account that is there
pub record IsPayment (parts : Parts) (tx : Tx) (to asset amount : ℕ) : Type 0 where
  pub payee : Contains (ids parts.accounts) to
  pub asset_there : asset < assets_of parts
  pub posting : credit parts.offers tx ≡ Some (record { account = to; asset = asset; units = amount })

pub payment : (parts : Parts) (tx : Tx) → static_of parts tx ≡ Ok tt → (to : AccountId) (asset amount : ℕ)
    → tx.kind ≡ kind.Pay asset to amount → IsPayment parts tx to.0 asset amount
payment parts tx pass to asset amount is =
    let passing = passes parts tx pass in
    let payee : pays_unknown parts.accounts (kind.Pay asset to amount) ≡ false =
    ap (pays_unknown parts.accounts) (sym is) ∙ passing.payee in
    let assets : names_beyond (assets_of parts) (kind.Pay asset to amount) ≡ false =
    ap (names_beyond (assets_of parts)) (sym is) ∙ passing.assets in
    record {
      payee = contained parts.accounts to.0 (not-false (has_account parts.accounts to.0) payee);
      asset_there = leb-false (assets_of parts) asset assets;
      posting = rw is refl;
    }

abbrev pub key_at : Tx → ℕ → ℕ → ℕ → ℕ → Key
key_at tx sell buy limit seq = record { sell = sell; buy = buy; limit = limit; account = tx.account; seq = seq }

-- a cancellation that passes is of an offer that is there, by an account that is there
pub record IsCancellation (parts : Parts) (tx : Tx) (key : Key) : Type 0 where
  pub own : Contains (ids parts.accounts) tx.account.0
  pub asset_there : key.sell < assets_of parts
  pub offer : has_offer parts.offers key ≡ true
  pub posting : credit parts.offers tx
      ≡ Some (record { account = tx.account.0; asset = key.sell; units = amount_of parts.offers key })

pub cancellation : (parts : Parts) (tx : Tx) → static_of parts tx ≡ Ok tt → (sell buy limit seq : ℕ)
    → tx.kind ≡ kind.Cancel sell buy limit seq → IsCancellation parts tx (key_at tx sell buy limit seq)
cancellation parts tx pass sell buy limit seq is =
    let passing = passes parts tx pass in
    let none = none_holds (static_list parts tx) pass in
    let unknown : cancels_unknown parts.offers tx.account.0 (kind.Cancel sell buy limit seq) ≡ false =
    ap (cancels_unknown parts.offers tx.account.0) (sym is) ∙ none.1.1.1.1.1.1.1.1.0 in
    let assets : names_beyond (assets_of parts) (kind.Cancel sell buy limit seq) ≡ false =
    ap (names_beyond (assets_of parts)) (sym is) ∙ passing.assets in
    record {
      own = contained parts.accounts tx.account.0 passing.own;
      asset_there = leb-false (assets_of parts) sell (or_parts (nat_le (assets_of parts) sell)
          (nat_le (assets_of parts) buy) assets).0;
      offer = not-false (has_offer parts.offers (key_at tx sell buy limit seq)) unknown;
      posting = rw is refl;
    }

-- ---- the amount of an offer

amount_found : (previous : Option Key) (offers : List Offer) (place : ℕ) (offer : Offer) (key : Key)
    → in_order key_before previous (keys offers) ≡ true → slice_get offers place ≡ Some offer
    → slice_get (keys offers) place ≡ Some key → offer.amount ≡ amount_of offers key
amount_found previous [] place offer key ordered there found = absurd cc
amount_found previous (one ∷ offers) zero offer key ordered there found =
    rw (same_key_from (key_of one) key (same_Some (key_of one) key found))
    (ap (λ (o : Offer). o.amount) (sym (same_Some one offer there)))
amount_found previous (one ∷ offers) (suc place) offer key ordered there found =
    let both = and_parts (may_follow key_before previous (key_of one))
    (in_order key_before (Some (key_of one)) (keys offers)) ordered in
    let before = before_later (key_of one) (keys offers) place key both.1 found in
    let other : same_key (key_of one) key ≡ false = false_from_ne_true (same_key (key_of one) key) (λ e.
    let differ : same_key key (key_of one) ≡ false = before_differs (key_of one) key before in
    let same : same_key key (key_of one) ≡ true =
    same_key_from key (key_of one) (sym (same_key_is (key_of one) key e)) in
    absurd cc) in
    rw other (amount_found (Some (key_of one)) offers place offer key both.1 there found)

pub amount_is : (offers : List Offer) (place : ℕ) (offer : Offer) (key : Key) →
    in_order key_before None (keys offers) ≡ true
    → slice_get offers place ≡ Some offer → slice_get (keys offers) place ≡ Some key →
    offer.amount ≡ amount_of offers key
amount_is offers place offer key = amount_found None offers place offer key

-- ---- which debit it is

-- what a transaction that passes debits is an asset that is there
pub debit_there : (parts : Parts) (tx : Tx) → static_of parts tx ≡ Ok tt → (posting : Posting)
    → debit tx ≡ Some posting → posting.asset < assets_of parts
debit_there parts tx pass posting is = by_kind tx.kind (passes parts tx pass).assets is
  where
    by_kind : (k : Kind) → names_beyond (assets_of parts) k ≡ false → debit_of tx.account.0 k ≡ Some posting
        → posting.asset < assets_of parts
    by_kind (kind.Pay asset to amount) within same =
        omega (arith, leb-false (assets_of parts) asset within, ap (λ (p : Posting). p.asset) (same_Some _ posting same))
    by_kind (kind.Create id) within same = absurd (none-some posting same)
    by_kind (kind.Offer sell buy limit amount) within same =
        omega (
          arith,
          leb-false (assets_of parts) sell (or_parts (nat_le (assets_of parts) sell)
              (nat_le (assets_of parts) buy) within).0,
          ap (λ (p : Posting). p.asset) (same_Some _ posting same),
        )
    by_kind (kind.Cancel sell buy limit seq) within same = absurd (none-some posting same)

-- ---- answers

pub when_ok : {T E : Type 0} {A B : Type 0} (r : Result T E) → (A → B) → OnOk r A → OnOk r B
when_ok (Ok x) f a = f a
when_ok (Err e) f a = tt

pub both_ok : {T E : Type 0} {A B C : Type 0} (r : Result T E) → (A → B → C) → OnOk r A → OnOk r B → OnOk r C
both_ok (Ok x) f a b = f a b
both_ok (Err e) f a b = tt
