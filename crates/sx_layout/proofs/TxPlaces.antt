-- Where what a candidate names stands in a ledger and in a plan.
use Rattle.std.proofs.Common.{◌≡◌, ℕ, zero, suc, ◌-◌, ◌<◌, true, false, List, [], ◌∷◌, length}
use Rattle.std.proofs.Common.{Option, Some, None, Ok, refl, sym, ap, subst, ◌∙◌, arith}
use Rattle.std.specs.Prelude.{slice_get, Contains}
use Rattle.std.specs.List.{position_or_len}
use Rattle.std.proofs.lemmas.List.{length-map}
use Rattle.std.proofs.lemmas.Option.{slice_get_within, get_or_from_slice_get, same_Some}
use Rattle.sx_layout.specs.declared.spot.Spot.{Spot}
use Rattle.sx_layout.specs.Asked.{number_spot}
use Rattle.sx_layout.specs.Plan.{Plan, account_place, offer_place, place_in, name_found, name_spot, window_spot}
use Rattle.sx_layout.specs.Setting.{IsSetting, Setting}
use Rattle.sx_layout.specs.AskedLaws.{AreThere}
use Rattle.sx_layout.proofs.AskedLaws.{asked_there, candidate_stands}
use Rattle.sx_layout.proofs.AskedThings.{has_created}
use Rattle.sx_layout.proofs.RisingNumbers.{has, has_each_once, place_is, rises_to}
use Rattle.sx_ledger.specs.declared.account.Account.{Account}
use Rattle.sx_ledger.specs.declared.key.Key.{Key}
use Rattle.sx_ledger.specs.declared.offer.Offer.{Offer}
use Rattle.sx_ledger.specs.declared.parts.Parts.{Parts}
use Rattle.sx_ledger.specs.Body.{created, created_by}
use Rattle.sx_ledger.specs.Ledger.{IsLedger, ids, keys}
use Rattle.sx_ledger.specs.Order.{key_of, key_before, same_key}
use Rattle.sx_ledger.specs.Static.{static_of, window_of}
use Rattle.sx_ledger.proofs.KeyOrder.{before_differs, same_key_from}
use Rattle.sx_ledger.proofs.Lookup.{mark_is, window_is}
use Rattle.sx_ledger.proofs.OfferOrder.{Rising, Precedes, rising_is}
use Rattle.sx_tx.specs.declared.tx.Tx.{Tx}

-- ---- where the account and the offer stand

pub account_stands : (parts : Parts) → IsLedger parts → (place id : ℕ)
    → slice_get (ids parts.accounts) place ≡ Some id → account_place parts id ≡ place
account_stands parts is place id at =
    let all = ids parts.accounts in
    place_is all (rises_to all is.by_id) place id (slice_get_within all place id at)
    (get_or_from_slice_get all place id 0 at)

pub account_within : (parts : Parts) (place id : ℕ) → slice_get (ids parts.accounts) place ≡ Some id
    → place < length parts.accounts
account_within parts place id at =
    omega (
      arith,
      slice_get_within (ids parts.accounts) place id at,
      length-map parts.accounts (λ (account : Account). account.id.0),
    )

precedes_at : (key : Key) (offers : List Offer) (place : ℕ) (other : Key) → Precedes key offers
    → slice_get (keys offers) place ≡ Some other → key_before key other ≡ true
precedes_at key [] place other all at = absurd cc
precedes_at key (offer ∷ offers) zero other all at =
    ap (key_before key) (sym (same_Some (key_of offer) other at)) ∙ all.0
precedes_at key (offer ∷ offers) (suc place) other all at = precedes_at key offers place other all.1 at

stands_at : (offers : List Offer) (place : ℕ) (key : Key) → Rising offers → slice_get (keys offers) place ≡ Some key
    → position_or_len (same_key key) (keys offers) ≡ place
stands_at [] place key rising at = absurd cc
stands_at (offer ∷ offers) zero key rising at =
    let here : same_key key (key_of offer) ≡ true =
    same_key_from key (key_of offer) (sym (same_Some (key_of offer) key at)) in
    rw here refl
stands_at (offer ∷ offers) (suc place) key rising at =
    let later : same_key key (key_of offer) ≡ false =
    before_differs (key_of offer) key (precedes_at (key_of offer) offers place key rising.0 at) in
    let rest = stands_at offers place key rising.1 at in
    rw later (omega (arith, rest))

pub offer_stands : (parts : Parts) → IsLedger parts → (place : ℕ) (key : Key)
    → slice_get (keys parts.offers) place ≡ Some key → offer_place parts key ≡ place
offer_stands parts is place key at = stands_at parts.offers place key (rising_is parts.offers is.by_key) at

pub offer_within : (parts : Parts) (place : ℕ) (key : Key) → slice_get (keys parts.offers) place ≡ Some key
    → place < length parts.offers
offer_within parts place key at =
    omega (arith, slice_get_within (keys parts.offers) place key at, length-map parts.offers key_of)

-- the account at a place has the window of its id
pub window_stands : (parts : Parts) → IsLedger parts → (place id : ℕ) (account : Account)
    → slice_get (ids parts.accounts) place ≡ Some id → slice_get parts.accounts place ≡ Some account
    → window_of parts.accounts id ≡ account.window
window_stands parts is place id account found at =
    let same = mark_is (λ (a : Account). a.id.0) parts.accounts place id account at found in
    ap (window_of parts.accounts) same ∙ window_is parts.accounts place account at is.by_id

-- ---- in a setting

module _ (s : Setting) (is : IsSetting s) where
  -- the account at a place is the one that the candidate's places name
  pub number_is_at : (tx : Tx) (place bit : ℕ) (spot : Spot) → slice_get (ids s.parts.accounts) place ≡ Some tx.account.0
      → spot ≡ window_spot s.plan place → bit ≡ tx.seq - (window_of s.parts.accounts tx.account.0).last - 1
      → (spot, bit) ≡ number_spot s.parts s.plan tx
  number_is_at tx place bit spot found at same =
      let stands = account_stands s.parts is.laid_out.ledger place tx.account.0 found in
      (λ i. (at i, same i))
      ∙ ap (λ (p : ℕ). (window_spot s.plan p, tx.seq - (window_of s.parts.accounts tx.account.0).last - 1)) (sym stands)

  -- the words of a candidate that passes are there
  pub setting_there : (tx : Tx) → static_of s.parts tx ≡ Ok tt → Contains s.candidates tx
      → AreThere s.parts s.plan tx
  setting_there tx passes own =
      subst (λ (plan : Plan). AreThere s.parts plan tx) (sym is.plan)
      (asked_there s.parts s.candidates s.plan.shards tx is.laid_out own passes)

  pub account_in_plan : (place id : ℕ) → slice_get (ids s.parts.accounts) place ≡ Some id → place < s.plan.accounts
  account_in_plan place id found =
      omega (arith, ap (λ (plan : Plan). plan.accounts) is.plan, account_within s.parts place id found)

  pub offer_in_plan : (place : ℕ) (key : Key) → slice_get (keys s.parts.offers) place ≡ Some key → place < s.plan.offers
  offer_in_plan place key found =
      omega (arith, ap (λ (plan : Plan). plan.offers) is.plan, offer_within s.parts place key found)

  pub id_in_plan : (tx : Tx) (id : ℕ) → Contains s.candidates tx → created_by tx.kind ≡ Some id
      → has id s.plan.names ≡ true
  id_in_plan tx id own makes =
      ap (λ (plan : Plan). has id plan.names) is.plan
      ∙ has_each_once id (created s.candidates)
      ∙ has_created s.candidates own.0 tx id (candidate_stands s.candidates tx own) makes

-- ---- new ids

pub name_is : (plan : Plan) (id : ℕ) (found : Option (Spot × ℕ)) (spot : Spot × ℕ) → has id plan.names ≡ true
    → found ≡ name_found plan id → found ≡ Some spot → spot ≡ name_spot plan (place_in plan.names id)
name_is plan id found spot there is at =
    let answer : name_found plan id ≡ Some (name_spot plan (place_in plan.names id)) = rw there refl in
    same_Some spot (name_spot plan (place_in plan.names id)) (sym at ∙ is ∙ answer)

pub name_is_there : (plan : Plan) (id : ℕ) (found : Option (Spot × ℕ)) → has id plan.names ≡ true
    → found ≡ name_found plan id → found ≡ None → ⊥
name_is_there plan id found there is none =
    let answer : name_found plan id ≡ Some (name_spot plan (place_in plan.names id)) = rw there refl in
    cc
