-- What a candidate asks for that the ledger does not refuse: it is there, and it tells who asks for it.
use Rattle.std.proofs.Common.{◌≡◌, ℕ, zero, suc, ◌+◌, ◌-◌, ◌<◌, ◌≤◌, Bool, true, false, List, [], ◌∷◌, length}
use Rattle.std.proofs.Common.{Option, Some, None, Result, Ok, Err, inl, inr, refl, sym, ap, subst, ◌∙◌, arith}
use Rattle.std.proofs.Common.{map}
use Rattle.std.specs.Prelude.{slice_get, nat_le, nat_lt, ◌==◌, if◌then◌else◌}
use Rattle.std.specs.Int.{bit_at}
use Rattle.std.specs.List.{list_any, cons_option}
use Rattle.std.proofs.lemmas.Bool.{cases_lt, eqb-true, eq-eqb, le-leb, lt-ltb, not-false, or_cases, or_left}
use Rattle.std.proofs.lemmas.Bool.{or_right}
use Rattle.std.proofs.lemmas.List.{length-map}
use Rattle.std.proofs.lemmas.Nat.Bits.{bit_at-lt}
use Rattle.std.proofs.lemmas.Option.{get_or_from_slice_get, slice_get-map, slice_get_within, same_Some}
use Rattle.std.specs.Option.{option_map}
use Rattle.sx_layout.specs.Asked.{number_of}
use Rattle.sx_layout.specs.Plan.{account_place, offer_place, place_in, plan_of}
use Rattle.sx_layout.specs.PlanLaws.{Thing, AnOffer, AName, IsThing, opening_of}
use Rattle.sx_layout.proofs.MarkedThings.{named, named_by}
use Rattle.sx_layout.proofs.RisingNumbers.{has, has_each_once}
use Rattle.sx_outcome.proofs.Totals.{found}
use Rattle.sx_ledger.specs.declared.account.Account.{Account}
use Rattle.sx_ledger.specs.declared.key.Key.{Key}
use Rattle.sx_ledger.specs.declared.offer.Offer.{Offer}
use Rattle.sx_ledger.specs.declared.parts.Parts.{Parts}
use Rattle.sx_ledger.specs.declared.statics.Static.{Static}
use Rattle.sx_ledger.specs.Body.{created, created_by}
use Rattle.sx_ledger.specs.Ledger.{IsLedger, assets_of, ids, keys}
use Rattle.sx_ledger.specs.Order.{key_of, same_key}
use Rattle.sx_ledger.specs.Static.{cancels_unknown, first_holding, has_account, has_offer, names_beyond}
use Rattle.sx_ledger.specs.Static.{static_list, static_of, window_of}
use Rattle.sx_ledger.proofs.KeyOrder.{same_key_is, same_key_from}
use Rattle.sx_ledger.proofs.Lookup.{entry_at, window_is}
use Rattle.sx_tx.specs.declared.kind.Kind.{Kind}
use Rattle.sx_tx.specs.declared.kind.Kind.TheVariants as kind
use Rattle.sx_tx.specs.declared.tx.Tx.{Tx}
use Rattle.sx_tx.specs.declared.window.Window.{Window}
use Rattle.sx_tx.specs.Window.{is_marked, open_numbers}

-- ---- the static test is passed

abbrev NoneHolds : List (Bool × Static) → Type 0
NoneHolds [] = Unit {0}
NoneHolds (reason ∷ reasons) = (reason.0 ≡ false) × NoneHolds reasons

first_fails : (b : Bool) (why : Static) (rest : Result (Unit {0}) Static) → (if b then Err why else rest) ≡ Ok tt
    → (b ≡ false) × (rest ≡ Ok tt)
first_fails true why rest passes = absurd cc
first_fails false why rest passes = (refl, passes)

none_holds : (reasons : List (Bool × Static)) → first_holding reasons ≡ Ok tt → NoneHolds reasons
none_holds [] passes = tt
none_holds (reason ∷ reasons) passes =
    let first = first_fails reason.0 reason.1 (first_holding reasons) passes in
    (first.0, none_holds reasons first.1)

pub record Asks (parts : Parts) (tx : Tx) : Type 0 where
  pub own : has_account parts.accounts tx.account.0 ≡ true
  pub above : (window_of parts.accounts tx.account.0).last < tx.seq
  pub within : tx.seq ≤ (window_of parts.accounts tx.account.0).last + open_numbers
  pub unmarked : is_marked (window_of parts.accounts tx.account.0) tx.seq ≡ false
  pub assets : names_beyond (assets_of parts) tx.kind ≡ false
  pub offer : cancels_unknown parts.offers tx.account.0 tx.kind ≡ false

pub asks : (parts : Parts) (tx : Tx) → static_of parts tx ≡ Ok tt → Asks parts tx
asks parts tx ok =
    let none = none_holds (static_list parts tx) ok in
    record {
      own = not-false (has_account parts.accounts tx.account.0) none.0;
      above = more ((window_of parts.accounts tx.account.0).last) tx.seq none.1.0;
      within = most ((window_of parts.accounts tx.account.0).last + open_numbers) tx.seq none.1.1.0;
      unmarked = none.1.1.1.0;
      assets = none.1.1.1.1.0;
      offer = none.1.1.1.1.1.1.1.1.0;
    }
  where
    more : (m n : ℕ) → nat_le n m ≡ false → m < n
    more m n fails = elim (cases_lt m n) [
      | inl lt ↦ lt
      | inr le ↦ let yes : nat_le n m ≡ true = le-leb n m le in absurd cc
    ]

    most : (m n : ℕ) → nat_lt m n ≡ false → n ≤ m
    most m n fails = elim (cases_lt m n) [
      | inl lt ↦ let yes : nat_lt m n ≡ true = lt-ltb m n lt in absurd cc
      | inr le ↦ le
    ]

-- ---- it is there

pub has_id : (accounts : List Account) (id : ℕ) → has_account accounts id ≡ true → has id (ids accounts) ≡ true
has_id [] id there = absurd cc
has_id (account ∷ accounts) id there =
    elim (or_cases (account.id.0 == id) (has_account accounts id) there) [
      | inl first ↦ or_left (account.id.0 == id) (has id (ids accounts)) first
      | inr later ↦ or_right (account.id.0 == id) (has id (ids accounts)) (has_id accounts id later)
    ]

pub has_key : (offers : List Offer) (key : Key) → has_offer offers key ≡ true
    → list_any (same_key key) (keys offers) ≡ true
has_key [] key there = absurd cc
has_key (offer ∷ offers) key there =
    elim (or_cases (same_key (key_of offer) key) (has_offer offers key) there) [
      | inl first ↦
          or_left (same_key key (key_of offer)) (list_any (same_key key) (keys offers))
          (same_key_from key (key_of offer) (sym (same_key_is (key_of offer) key first)))
      | inr later ↦
          or_right (same_key key (key_of offer)) (list_any (same_key key) (keys offers)) (has_key offers key later)
    ]

pub has_created : (candidates : List Tx) (place : ℕ) (tx : Tx) (id : ℕ) → slice_get candidates place ≡ Some tx
    → created_by tx.kind ≡ Some id → has id (created candidates) ≡ true
has_created [] place tx id at is = absurd cc
has_created (first ∷ others) zero tx id at is =
    let here : created_by first.kind ≡ Some id = ap (λ (t : Tx). created_by t.kind) (same_Some first tx at) ∙ is in
    rw here (or_left (id == id) (has id (created others)) (eq-eqb id id refl))
has_created (first ∷ others) (suc place) tx id at is =
    onward (created_by first.kind) (has_created others place tx id at is)
  where
    onward : (made : Option ℕ) → has id (created others) ≡ true → has id (cons_option made (created others)) ≡ true
    onward None rest = rest
    onward (Some other) rest = or_right (other == id) (has id (created others)) rest

pub account_below : (parts : Parts) (tx : Tx) → Asks parts tx → account_place parts tx.account.0 < length parts.accounts
account_below parts tx is =
    let there = found (λ (other : ℕ). other == tx.account.0) (ids parts.accounts)
    (has_id parts.accounts tx.account.0 is.own) in
    omega (
      arith,
      slice_get_within (ids parts.accounts) (account_place parts tx.account.0) there.entry there.stands,
      length-map parts.accounts (λ (account : Account). account.id.0),
    )

pub number_is : (parts : Parts) (candidates : List Tx) (shards : ℕ) (tx : Tx) → Asks parts tx
    → IsThing (plan_of parts candidates shards) (number_of parts tx)
number_is parts candidates shards tx is =
    (account_below parts tx is, (let low = is.above in let high = is.within in omega arith))

-- the bit of its number is clear at the opening
clear_from : (word bit : ℕ) → (bit_at word bit == 1) ≡ false → bit_at word bit ≡ 0
clear_from word bit unmarked =
    elim (cases_lt (bit_at word bit) 1) [
      | inl none ↦ omega (arith, none)
      | inr some ↦
          let one : bit_at word bit ≡ 1 = omega (arith, some, bit_at-lt word bit) in
          let marked = eq-eqb (bit_at word bit) 1 one in
          absurd cc
    ]

pub number_clear : (parts : Parts) (tx : Tx) → IsLedger parts → Asks parts tx
    → bit_at (opening_of parts (number_of parts tx)) (tx.seq - (window_of parts.accounts tx.account.0).last - 1) ≡ 0
number_clear parts tx ledger is =
    let place = account_place parts tx.account.0 in
    let window = window_of parts.accounts tx.account.0 in
    let there = found (λ (other : ℕ). other == tx.account.0) (ids parts.accounts)
    (has_id parts.accounts tx.account.0 is.own) in
    let entry = entry_at (λ (a : Account). a.id.0) parts.accounts place there.entry there.stands in
    let id : entry.0.id.0 ≡ tx.account.0 = sym entry.2 ∙ eqb-true there.entry tx.account.0 there.passes in
    let same : entry.0.window ≡ window =
    sym (window_is parts.accounts place entry.0 entry.1 ledger.by_id) ∙ ap (window_of parts.accounts) id in
    let word : opening_of parts (number_of parts tx) ≡ window.used =
    get_or_from_slice_get (map (λ (a : Account). a.window.used) parts.accounts) place entry.0.window.used 0
    (slice_get-map (λ (a : Account). a.window.used) parts.accounts place
    ∙ ap (option_map (λ (a : Account). a.window.used)) entry.1)
    ∙ ap (λ (w : Window). w.used) same in
    let bit : tx.seq - window.last - 1 ≡ tx.seq - suc window.last = omega arith in
    ap (λ (w : ℕ). bit_at w (tx.seq - window.last - 1)) word ∙ ap (bit_at window.used) bit
    ∙ clear_from window.used (tx.seq - suc window.last) is.unmarked

named_is_by : (parts : Parts) (candidates : List Tx) (shards place : ℕ) (tx : Tx) (of : Kind) (thing : Thing)
    → slice_get candidates place ≡ Some tx → tx.kind ≡ of → cancels_unknown parts.offers tx.account.0 of ≡ false
    → named_by parts (plan_of parts candidates shards) tx.account.0 of ≡ Some thing
    → IsThing (plan_of parts candidates shards) thing
named_is_by parts candidates shards place tx (kind.Pay asset to amount) thing at same known names = absurd cc
named_is_by parts candidates shards place tx (kind.Create id) thing at same known names =
    let plan = plan_of parts candidates shards in
    let there : has id.0 plan.names ≡ true =
    has_each_once id.0 (created candidates)
    ∙ has_created candidates place tx id.0 at (ap created_by same) in
    let at_place = found (λ (other : ℕ). other == id.0) plan.names there in
    subst (IsThing plan) (same_Some (AName (place_in plan.names id.0)) thing names)
    (slice_get_within plan.names (place_in plan.names id.0) at_place.entry at_place.stands)
named_is_by parts candidates shards place tx (kind.Offer sell buy limit amount) thing at same known names = absurd cc
named_is_by parts candidates shards place tx (kind.Cancel sell buy limit seq) thing at same known names =
    let plan = plan_of parts candidates shards in
    let key : Key = record {
      sell = sell;
      buy = buy;
      limit = limit;
      account = record { 0 = tx.account.0 };
      seq =
          seq;
    } in
    let there = found (same_key key) (keys parts.offers)
    (has_key parts.offers key (not-false (has_offer parts.offers key) known)) in
    let below : offer_place parts key < length parts.offers =
    omega (
      arith,
      slice_get_within (keys parts.offers) (offer_place parts key) there.entry there.stands,
      length-map parts.offers key_of,
    ) in
    subst (IsThing plan) (same_Some (AnOffer (offer_place parts key)) thing names) below

pub named_is : (parts : Parts) (candidates : List Tx) (shards place : ℕ) (tx : Tx) (thing : Thing)
    → slice_get candidates place ≡ Some tx → Asks parts tx
    → named parts (plan_of parts candidates shards) tx ≡ Some thing → IsThing (plan_of parts candidates shards) thing
named_is parts candidates shards place tx thing at is =
    named_is_by parts candidates shards place tx tx.kind thing at refl is.offer

-- ---- it tells who asks

-- two ids that stand at one place are one
one_id : (xs : List ℕ) (a b : ℕ) → has a xs ≡ true → has b xs ≡ true → place_in xs a ≡ place_in xs b → a ≡ b
one_id xs a b there too same =
    let first = found (λ (other : ℕ). other == a) xs there in
    let second = found (λ (other : ℕ). other == b) xs too in
    let entries : first.entry ≡ second.entry =
    same_Some first.entry second.entry (sym first.stands ∙ ap (slice_get xs) same ∙ second.stands) in
    sym (eqb-true first.entry a first.passes) ∙ entries ∙ eqb-true second.entry b second.passes

pub one_account : (parts : Parts) (a b : ℕ) → has_account parts.accounts a ≡ true → has_account parts.accounts b ≡ true
    → account_place parts a ≡ account_place parts b → a ≡ b
one_account parts a b there too =
    one_id (ids parts.accounts) a b (has_id parts.accounts a there) (has_id parts.accounts b too)

pub one_name : (candidates : List Tx) (names : List ℕ) (a b : ℕ) → has a names ≡ true → has b names ≡ true
    → place_in names a ≡ place_in names b → a ≡ b
one_name candidates names a b = one_id names a b

pub one_key : (parts : Parts) (a b : Key) → has_offer parts.offers a ≡ true → has_offer parts.offers b ≡ true
    → offer_place parts a ≡ offer_place parts b → a ≡ b
one_key parts a b there too same =
    let first = found (same_key a) (keys parts.offers) (has_key parts.offers a there) in
    let second = found (same_key b) (keys parts.offers) (has_key parts.offers b too) in
    let entries : first.entry ≡ second.entry =
    same_Some first.entry second.entry
    (sym first.stands ∙ ap (slice_get (keys parts.offers)) same ∙ second.stands) in
    same_key_is a first.entry first.passes ∙ entries ∙ sym (same_key_is b second.entry second.passes)
