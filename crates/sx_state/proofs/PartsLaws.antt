-- The fields of a state: decoding inverts encoding, and back.
use Rattle.std.proofs.Common.{◌≡◌, ℕ, ◌≤◌, ◌<◌, ◌^◌, List, ◌++◌, length, Ok, refl, sym, ap, subst, append_assoc}
use Rattle.std.specs.List.{flat_map}
use Rattle.byteorder.specs.Endian.{big_bytes}
use Rattle.sx_bytes.specs.Cursor.{Cursor, rest}
use Rattle.sx_bytes.specs.Grammar.{◌>>=◌}
use Rattle.sx_bytes.proofs.Grammar.{bind_ok, Takes, Again}
use Rattle.sx_bytes.proofs.Parts.{Reading, TakesAll, ReadsAgain}
use Rattle.sx_ledger.specs.declared.account.Account.{Account}
use Rattle.sx_ledger.specs.declared.offer.Offer.{Offer}
use Rattle.sx_ledger.specs.declared.parts.Parts.{Parts}
use Rattle.sx_ledger.specs.Ledger.{assets_of, total_of, IsLedger}
use Rattle.sx_state.specs.Encoding.{state_bytes}
use Rattle.sx_state.specs.Decoding.{head_at, account_list_at, offer_list_at, parts_at}
use Rattle.sx_state.proofs.DependentParts.{chained_takes, chained_again}
use Rattle.sx_state.proofs.AccountLaws.{AreAccounts, account_list_bytes, account_list_takes, account_list_again}
use Rattle.sx_state.proofs.OfferLaws.{AreOffers, offer_list_bytes, offer_list_takes, offer_list_again}
use Rattle.sx_state.proofs.HeadLaws.{Head, IsFrom, IsHead, head_bytes, head_takes, head_again}

abbrev pub head_of : Parts → Head
head_of parts = (parts.version, parts.height, parts.prices, parts.rounding)

abbrev made : Head → List Account → List Offer → Parts
made head accounts offers = record {
  version = head.0;
  height = head.1;
  prices = head.2;
  rounding = head.3;
  accounts = accounts;
  offers = offers;
}

abbrev from_accounts : Head → List Account → Reading Parts
from_accounts head accounts c =
    offer_list_at accounts (length head.2) c >>= λ offers. Ok (made head accounts offers.0, offers.1)

abbrev from_head : Head → Reading Parts
from_head head c = account_list_at head.0 (length head.2) c >>= λ accounts. from_accounts head accounts.0 accounts.1

abbrev offers_text : Parts → List ℕ
offers_text parts = offer_list_bytes parts.offers

abbrev accounts_text : Parts → List ℕ
accounts_text parts = account_list_bytes parts.version parts.accounts ++ offers_text parts

-- parts of this head and these accounts
record FromAccounts (head : Head) (accounts : List Account) (parts : Parts) : Type 0 where
  head_is : head ≡ head_of parts
  accounts_are : accounts ≡ parts.accounts
  offers_are : AreOffers (length head.2) accounts parts.offers

abbrev FromHead : Head → Parts → Type 0
FromHead head parts = AreAccounts head.0 (length head.2) parts.accounts × FromAccounts head parts.accounts parts

offers_take : (head : Head) (accounts : List Account) → IsHead head
    → TakesAll (from_accounts head accounts) offers_text (FromAccounts head accounts)
offers_take head accounts is c next parts bytes e =
    let a = bind_ok (offer_list_at accounts (length head.2) c) (λ o. Ok (made head accounts o.0, o.1)) (parts, next)
    e in
    let t = offer_list_takes (length head.2) is.1.1.0.0 is.1.1.0.1 accounts c a.0.1 a.0.0 bytes a.1 in
    let read : Parts × Cursor = (made head accounts a.0.0, a.0.1) in
    let from : FromAccounts head accounts read.0 = record { head_is = refl; accounts_are = refl; offers_are = t.1 } in
    let same : read ≡ (parts, next) = cc in
    subst (λ (y : Parts × Cursor). Takes c (offers_text y.0) y.1 × FromAccounts head accounts y.0) {x = read} {y =
    (parts, next)} same (t.0, from)

offers_again : (head : Head) (accounts : List Account) → IsHead head
    → ReadsAgain (from_accounts head accounts) offers_text (FromAccounts head accounts)
offers_again head accounts is c parts after from within e =
    let read = offer_list_again (length head.2)
    is.1.1.0.0 is.1.1.0.1 accounts c parts.offers after from.offers_are within e in
    let again : Again (from_accounts head accounts c) c (made head accounts parts.offers) after =
    record {
      next = read.next;
      is = rw read.is refl;
      rest_is = read.rest_is;
      same = read.same;
      within = read.within;
    } in
    let same : made head accounts parts.offers ≡ parts = rw (from.head_is, from.accounts_are) refl in
    subst (λ (p : Parts). Again (from_accounts head accounts c) c p after) same again

accounts_take : (head : Head) → IsHead head → TakesAll (from_head head) accounts_text (FromHead head)
accounts_take head is c next parts bytes e =
    let t = chained_takes (account_list_at head.0 (length head.2)) (from_accounts head) (account_list_bytes head.0)
    offers_text (AreAccounts head.0 (length head.2)) (FromAccounts head) (λ parts. parts.accounts)
    (account_list_takes head.0 (length head.2)) (λ accounts are. offers_take head accounts is)
    (λ accounts parts from. from.accounts_are) c next parts bytes e in
    let text : Takes c (accounts_text parts) next =
    subst (λ (h : Head). Takes c (account_list_bytes h.0 parts.accounts ++ offers_text parts) next) t.1.1.head_is t.0 in
    (text, t.1)

accounts_again : (head : Head) → IsHead head → ReadsAgain (from_head head) accounts_text (FromHead head)
accounts_again head is c parts after from within e =
    let text : rest c ≡ (account_list_bytes head.0 parts.accounts ++ offers_text parts) ++ after =
    subst (λ (h : Head). rest c ≡ (account_list_bytes h.0 parts.accounts ++ offers_text parts) ++ after)
    (sym from.1.head_is) e in
    chained_again (account_list_at head.0 (length head.2)) (from_accounts head) (account_list_bytes head.0)
    offers_text (AreAccounts head.0 (length head.2)) (FromAccounts head) (λ parts. parts.accounts)
    (account_list_again head.0 (length head.2)) (λ accounts are. offers_again head accounts is)
    c parts after from within text

-- ---- all of them

-- all that a ledger keeps but its totals
pub record IsRead (parts : Parts) : Type 0 where
  pub head_is : IsHead (head_of parts)
  pub accounts_are : AreAccounts parts.version (assets_of parts) parts.accounts
  pub offers_are : AreOffers (assets_of parts) parts.accounts parts.offers

text_is : (parts : Parts) → head_bytes (head_of parts) ++ accounts_text parts ≡ state_bytes parts
text_is parts =
    ap (λ (t : List ℕ). big_bytes 1 parts.version ++
    (big_bytes 8 parts.height ++ (big_bytes 1 (length parts.prices) ++ t)))
    (append_assoc (flat_map (big_bytes 8) parts.prices) (flat_map (big_bytes 8) parts.rounding) (accounts_text parts))

pub parts_take : TakesAll parts_at state_bytes IsRead
unfolding parts_at
parts_take c next parts bytes e =
    let t = chained_takes head_at from_head head_bytes accounts_text IsHead FromHead head_of head_takes accounts_take
    (λ head ps from. from.1.head_is) c next parts bytes e in
    let text : Takes c (state_bytes parts) next = subst (λ (s : List ℕ). Takes c s next) (text_is parts) t.0 in
    (text, record { head_is = t.1.0; accounts_are = t.1.1.0; offers_are = t.1.1.1.offers_are })

pub parts_again : ReadsAgain parts_at state_bytes IsRead
unfolding parts_at
parts_again c parts after is within e =
    let from : FromAccounts (head_of parts) parts.accounts parts =
    record { head_is = refl; accounts_are = refl; offers_are = is.offers_are } in
    let text : rest c ≡ (head_bytes (head_of parts) ++ accounts_text parts) ++ after =
    subst (λ (s : List ℕ). rest c ≡ s ++ after) (sym (text_is parts)) e in
    chained_again head_at from_head head_bytes accounts_text IsHead FromHead head_of head_again accounts_again c parts
    after (is.head_is, (is.accounts_are, from)) within text

-- ---- what is read and has totals in range is a ledger, and back

pub ledger_from_read : (parts : Parts) → IsRead parts
    → ((asset : ℕ) → asset < assets_of parts → total_of parts asset ≤ 2 ^ 62) → IsLedger parts
ledger_from_read parts is totals =
    let head = is.head_is.1.1.1 in
    record {
      some_version = is.head_is.0.0;
      few_versions = is.head_is.0.1;
      height = is.head_is.1.0;
      some_asset = is.head_is.1.1.0.0;
      few_assets = is.head_is.1.1.0.1;
      prices = head.prices.are;
      one_rounding = head.rounding.number;
      rounding = head.rounding.are;
      few_accounts = is.accounts_are.few;
      accounts = is.accounts_are.are;
      by_id = is.accounts_are.by_id;
      few_offers = is.offers_are.few;
      offers = is.offers_are.are;
      by_key = is.offers_are.by_key;
      totals = totals;
    }

pub read_from_ledger : (parts : Parts) → IsLedger parts → IsRead parts
read_from_ledger parts is =
    let numbers : IsFrom parts.version parts.height (assets_of parts) (head_of parts) = record {
      version_is = refl;
      height_is = refl;
      prices = record { number = refl; are = is.prices };
      rounding = record { number = is.one_rounding; are = is.rounding };
    } in
    record {
      head_is = ((is.some_version, is.few_versions), (is.height, ((is.some_asset, is.few_assets), numbers)));
      accounts_are = record { few = is.few_accounts; are = is.accounts; by_id = is.by_id };
      offers_are = record { few = is.few_offers; are = is.offers; by_key = is.by_key };
    }
