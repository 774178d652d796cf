-- Offers: decoding inverts encoding, and back.
use Rattle.std.proofs.Common.{◌≡◌, ◌≢◌, ℕ, ◌-◌, ◌<◌, ◌≤◌, true, List, ◌++◌, length, Option, None, Ok, All, refl, sym}
use Rattle.std.proofs.Common.{ap, subst, ◌∙◌, arith}
use Rattle.std.specs.Prelude.{IsTrue, not, ◌==◌}
use Rattle.std.specs.List.{flat_map}
use Rattle.std.proofs.lemmas.Bool.{not-true, not_from_false, eqb-false, ne_eqb}
use Rattle.std.proofs.lemmas.List.Elements.{All-from_recursion, recursion_from_All}
use Rattle.byteorder.specs.Endian.{big_bytes}
use Rattle.sx_bytes.specs.declared.fault.Form.TheVariants as form
use Rattle.sx_bytes.specs.declared.fault.FormFault.{FormFault}
use Rattle.sx_bytes.specs.Field.{AreBytes}
use Rattle.sx_bytes.specs.Cursor.{Cursor, rest}
use Rattle.sx_bytes.specs.Grammar.{◌>>=◌, between, field_at, may_follow, in_order}
use Rattle.sx_bytes.proofs.Grammar.{bind_ok, guard_ok, Takes, Again}
use Rattle.sx_bytes.proofs.Parts.{Reading, TakesAll, ReadsAgain, three_at, three_take, three_again}
use Rattle.sx_bytes.proofs.DecodingSteps.{range_takes, range_again}
use Rattle.sx_price.specs.Limits.{IsLimit}
use Rattle.sx_tx.specs.Transactions.{IsId, IsSeq, IsAmount}
use Rattle.sx_tx.specs.TransactionDecoding.{id_at, seq_at, amount_at, limit_at}
use Rattle.sx_tx.proofs.FieldLaws.{id_takes, id_again, seq_takes, seq_again, amount_takes, amount_again, limit_takes}
use Rattle.sx_tx.proofs.FieldLaws.{limit_again}
use Rattle.sx_ledger.specs.declared.account.Account.{Account}
use Rattle.sx_ledger.specs.declared.key.Key.{Key}
use Rattle.sx_ledger.specs.declared.offer.Offer.{Offer}
use Rattle.sx_ledger.specs.Ledger.{keys, has_owner, IsOffer}
use Rattle.sx_ledger.specs.Order.{key_of, key_before}
use Rattle.sx_state.specs.Encoding.{offer_bytes}
use Rattle.sx_state.specs.Decoding.{guarded, sell_at, buy_at, offer_at, next_offer_at, offers_at, offer_list_at}
use Rattle.sx_state.proofs.DependentParts.{guard_takes, guard_again, chained_takes, chained_again}
use Rattle.sx_state.proofs.EntriesInOrder.{IsTaken, each_takes, each_again}

-- ---- the fields of an offer, the last first

abbrev made : ℕ → ℕ → ℕ → ℕ → ℕ → ℕ → Offer
made sell buy limit account seq amount =
    record { sell = sell; buy = buy; limit = limit; account = record { 0 = account }; seq = seq; amount = amount }

abbrev from_account : ℕ → ℕ → ℕ → Reading Offer
from_account sell buy limit = three_at id_at seq_at amount_at (made sell buy limit)

abbrev from_limit : ℕ → ℕ → Reading Offer
from_limit sell buy c = limit_at c >>= λ limit. from_account sell buy limit.0 limit.1

abbrev from_buy : ℕ → ℕ → Reading Offer
from_buy assets sell c = buy_at assets sell c >>= λ buy. from_limit sell buy.0 buy.1

abbrev account_text : Offer → List ℕ
account_text offer = big_bytes 8 offer.account.0 ++ (big_bytes 8 offer.seq ++ big_bytes 8 offer.amount)

abbrev limit_text : Offer → List ℕ
limit_text offer = big_bytes 8 offer.limit ++ account_text offer

abbrev buy_text : Offer → List ℕ
buy_text offer = big_bytes 1 offer.buy ++ limit_text offer

-- an offer of these assets and this limit
record IsFrom (sell buy limit : ℕ) (offer : Offer) : Type 0 where
  sold : sell ≡ offer.sell
  bought : buy ≡ offer.buy
  limited : limit ≡ offer.limit
  account : IsId offer.account.0
  seq : IsSeq offer.seq
  amount : IsAmount offer.amount

account_takes : (sell buy limit : ℕ) → TakesAll (from_account sell buy limit) account_text (IsFrom sell buy limit)
account_takes sell buy limit c next offer bytes e =
    let t = three_take id_at seq_at amount_at (made sell buy limit) (big_bytes 8) (big_bytes 8) (big_bytes 8)
    IsId IsSeq IsAmount id_takes seq_takes amount_takes c next offer bytes e in
    let is : IsFrom sell buy limit (made sell buy limit t.0 t.1 t.2) =
    record { sold = refl; bought = refl; limited = refl; account = t.5; seq = t.6; amount = t.7 } in
    subst (λ (o : Offer). Takes c (account_text o) next × IsFrom sell buy limit o) t.3 (t.4, is)

account_again : (sell buy limit : ℕ) → ReadsAgain (from_account sell buy limit) account_text (IsFrom sell buy limit)
account_again sell buy limit c offer after is within e =
    let read = three_again id_at seq_at amount_at (made sell buy limit) (big_bytes 8) (big_bytes 8) (big_bytes 8)
    IsId IsSeq IsAmount id_again seq_again amount_again
    c offer.account.0 offer.seq offer.amount after is.account is.seq is.amount within e in
    let same : made sell buy limit offer.account.0 offer.seq offer.amount ≡ offer =
    rw (is.sold, is.bought, is.limited) refl in
    subst (λ (o : Offer). Again (from_account sell buy limit c) c o after) same read

abbrev IsBought : ℕ → ℕ → ℕ → Type 0
IsBought assets sell buy = (buy < assets) × (buy ≢ sell)

abbrev FromLimit : ℕ → ℕ → Offer → Type 0
FromLimit sell buy offer = IsLimit offer.limit × IsFrom sell buy offer.limit offer

abbrev FromBuy : ℕ → ℕ → Offer → Type 0
FromBuy assets sell offer = IsBought assets sell offer.buy × FromLimit sell offer.buy offer

limit_takes_on : (sell buy : ℕ) → TakesAll (from_limit sell buy) limit_text (FromLimit sell buy)
limit_takes_on sell buy =
    chained_takes limit_at (from_account sell buy) (big_bytes 8) account_text IsLimit (IsFrom sell buy)
    (λ offer. offer.limit)
    limit_takes (λ limit is. account_takes sell buy limit) (λ limit offer is. is.limited)

limit_again_on : (sell buy : ℕ) → ReadsAgain (from_limit sell buy) limit_text (FromLimit sell buy)
limit_again_on sell buy =
    chained_again limit_at (from_account sell buy) (big_bytes 8) account_text IsLimit (IsFrom sell buy)
    (λ offer. offer.limit)
    limit_again (λ limit is. account_again sell buy limit)

module _ (assets : ℕ) (some : 1 ≤ assets) (few : assets ≤ 32) where
  asset_takes : TakesAll (sell_at assets) (big_bytes 1) (λ sell. sell < assets)
  asset_takes c next x bytes e = let t = range_takes 1 0 (assets - 1) form.AssetRange c next x bytes e in
      (t.0, omega (arith, t.2))

  asset_again : ReadsAgain (sell_at assets) (big_bytes 1) (λ sell. sell < assets)
  asset_again c x after is within e =
      range_again 1 0 (assets - 1) form.AssetRange c x after (omega arith) (omega arith) (omega (arith, is)) within e

  buy_takes : (sell : ℕ) → TakesAll (buy_at assets sell) (big_bytes 1) (IsBought assets sell)
  buy_takes sell c next x bytes e =
      let g = guard_takes (sell_at assets c) (λ buy. not (buy == sell))
      (record { at = c.place; fault = form.AssetRange }) (x, next) e in
      let t = asset_takes c next x bytes g.0 in
      (t.0, (t.1, eqb-false x sell (not-true (x == sell) g.1)))

  buy_again : (sell : ℕ) → ReadsAgain (buy_at assets sell) (big_bytes 1) (IsBought assets sell)
  buy_again sell c x after is within e =
      guard_again (sell_at assets c) (λ buy. not (buy == sell)) (record { at = c.place; fault = form.AssetRange })
      c x after
      (not_from_false (x == sell) (ne_eqb x sell is.1)) (asset_again c x after is.0 within e)

  buy_takes_on : (sell : ℕ) → TakesAll (from_buy assets sell) buy_text (FromBuy assets sell)
  buy_takes_on sell =
      chained_takes (buy_at assets sell) (from_limit sell) (big_bytes 1) limit_text (IsBought assets sell)
      (FromLimit sell) (λ offer. offer.buy)
      (buy_takes sell) (λ buy is. limit_takes_on sell buy) (λ buy offer is. is.1.bought)

  buy_again_on : (sell : ℕ) → ReadsAgain (from_buy assets sell) buy_text (FromBuy assets sell)
  buy_again_on sell =
      chained_again (buy_at assets sell) (from_limit sell) (big_bytes 1) limit_text (IsBought assets sell)
      (FromLimit sell) (λ offer. offer.buy)
      (buy_again sell) (λ buy is. limit_again_on sell buy)

  offer_takes : (accounts : List Account) (c next : Cursor) (offer : Offer) → AreBytes c.bytes
      → offer_at assets c ≡ Ok (offer, next) → has_owner accounts offer ≡ true
      → Takes c (offer_bytes offer) next × IsOffer assets accounts offer
  unfolding offer_at
  offer_takes accounts c next offer bytes e owned =
      let t = chained_takes (sell_at assets) (from_buy assets) (big_bytes 1) buy_text (λ sell. sell < assets)
      (FromBuy assets) (λ o. o.sell)
      asset_takes (λ sell is. buy_takes_on sell) (λ sell o is. is.1.1.sold) c next offer bytes e in
      let bought = t.1.1 in
      let from = bought.1.1 in (
        t.0,
        record {
          sell = t.1.0;
          buy = bought.0.0;
          differ = bought.0.1;
          limit = bought.1.0;
          account = from.account;
          seq = from.seq;
          amount = from.amount;
          owner = owned;
        },
      )

  offer_again : (accounts : List Account) (c : Cursor) (offer : Offer) (after : List ℕ)
      → IsOffer assets accounts offer → c.place ≤ length c.bytes
      → rest c ≡ offer_bytes offer ++ after → Again (offer_at assets c) c offer after
  unfolding offer_at
  offer_again accounts c offer after is within e =
      let from : IsFrom offer.sell offer.buy offer.limit offer =
      record {
        sold = refl;
        bought = refl;
        limited = refl;
        account = is.account;
        seq = is.seq;
        amount = is.amount;
      } in
      chained_again (sell_at assets) (from_buy assets) (big_bytes 1) buy_text (λ sell. sell < assets) (FromBuy assets)
      (λ o. o.sell)
      asset_again (λ sell sold. buy_again_on sell) c offer after (is.sell, ((is.buy, is.differ), (is.limit, from)))
      within e

  -- ---- offers by key

  next_takes : (accounts : List Account) (before : Option Key) (c next : Cursor) (offer : Offer) → AreBytes c.bytes
      → next_offer_at accounts assets before c ≡ Ok (offer, next)
      → IsTaken offer_bytes key_of key_before (IsOffer assets accounts) before c next offer
  unfolding next_offer_at
  next_takes accounts before c next offer bytes e =
      let misplaced : FormFault = record { at = c.place; fault = form.Order } in
      let unowned : FormFault = record { at = c.place; fault = form.Owner } in
      let a = bind_ok (offer_at assets c)
      (λ o. guarded (may_follow key_before before (key_of o.0)) o misplaced >>= λ p.
      guarded (has_owner accounts p.0) p unowned) (offer, next) e in
      let g = guard_takes (guarded (may_follow key_before before (key_of a.0.0)) a.0 misplaced) (has_owner accounts)
      unowned (offer, next) a.2 in
      let f = guard_ok (may_follow key_before before (key_of a.0.0)) a.0 (offer, next) misplaced g.0 in
      let follows : may_follow key_before before (key_of offer) ≡ true =
      subst (λ (o : Offer × Cursor). may_follow key_before before (key_of o.0) ≡ true) f.1 f.0 in
      let t = offer_takes accounts c next offer bytes (a.1 ∙ ap (λ (o : Offer × Cursor). Ok o) f.1) g.1 in
      (t.0, t.1, follows)

  next_again : (accounts : List Account) (before : Option Key) (c : Cursor) (offer : Offer) (after : List ℕ)
      → IsOffer assets accounts offer → may_follow key_before before (key_of offer) ≡ true
      → c.place ≤ length c.bytes → rest c ≡ offer_bytes offer ++ after
      → Again (next_offer_at accounts assets before c) c offer after
  unfolding next_offer_at
  next_again accounts before c offer after is follows within e =
      let one = offer_again accounts c offer after is within e in
      record {
        next = one.next;
        is = rw one.is (rw follows (rw is.owner refl));
        rest_is = one.rest_is;
        same = one.same;
        within = one.within;
      }

  -- n offers
  record SoMany (accounts : List Account) (n : ℕ) (offers : List Offer) : Type 0 where
    number : n ≡ length offers
    are : All (IsOffer assets accounts) offers
    by_key : IsTrue (in_order key_before None (keys offers))

  offers_take : (accounts : List Account) (n : ℕ)
      → TakesAll (offers_at accounts assets n None) (flat_map offer_bytes) (SoMany accounts n)
  offers_take accounts n c next offers bytes e =
      let t = each_takes (next_offer_at accounts assets) key_of offer_bytes key_before (IsOffer assets accounts)
      (next_takes accounts) n None c next offers bytes e in
      (t.0, record { number = sym t.1; are = All-from_recursion (IsOffer assets accounts) offers t.2; by_key = t.3 })

  offers_again : (accounts : List Account) (n : ℕ)
      → ReadsAgain (offers_at accounts assets n None) (flat_map offer_bytes) (SoMany accounts n)
  offers_again accounts n c offers after is within e =
      let read = each_again (next_offer_at accounts assets) key_of offer_bytes key_before (IsOffer assets accounts)
      (next_again accounts) offers None c after
      (recursion_from_All (IsOffer assets accounts) offers is.are) is.by_key within e in
      subst (λ (k : ℕ). Again (offers_at accounts assets k None c) c offers after) (sym is.number) read

-- ---- their number, and the offers

-- offers of a state of `assets` assets, by these accounts
pub record AreOffers (assets : ℕ) (accounts : List Account) (offers : List Offer) : Type 0 where
  pub few : length offers ≤ 262144
  pub are : All (IsOffer assets accounts) offers
  pub by_key : IsTrue (in_order key_before None (keys offers))

abbrev pub offer_list_bytes : List Offer → List ℕ
offer_list_bytes offers = big_bytes 4 (length offers) ++ flat_map offer_bytes offers

abbrev IsCount : ℕ → Type 0
IsCount n = n ≤ 262144

count_takes : TakesAll (field_at 4 (between 0 262144) form.TooMany) (big_bytes 4) IsCount
count_takes c next x bytes e = let t = range_takes 4 0 262144 form.TooMany c next x bytes e in (t.0, t.2)

count_again : ReadsAgain (field_at 4 (between 0 262144) form.TooMany) (big_bytes 4) IsCount
count_again c x after is within e =
    range_again 4 0 262144 form.TooMany c x after (omega arith) (omega arith) is within e

module _ (assets : ℕ) (some : 1 ≤ assets) (few : assets ≤ 32) (accounts : List Account) where
  pub offer_list_takes : TakesAll (offer_list_at accounts assets) offer_list_bytes (AreOffers assets accounts)
  unfolding offer_list_at
  offer_list_takes c next offers bytes e =
      let t = chained_takes (field_at 4 (between 0 262144) form.TooMany) (λ n. offers_at accounts assets n None)
      (big_bytes 4) (flat_map offer_bytes) IsCount (SoMany assets some few accounts) length
      count_takes (λ n is. offers_take assets some few accounts n) (λ n xs is. is.number) c next offers bytes e in
      (t.0, record { few = t.1.0; are = t.1.1.are; by_key = t.1.1.by_key })

  pub offer_list_again : ReadsAgain (offer_list_at accounts assets) offer_list_bytes (AreOffers assets accounts)
  unfolding offer_list_at
  offer_list_again c offers after is within e =
      let many : SoMany assets some few accounts (length offers) offers =
      record { number = refl; are = is.are; by_key = is.by_key } in
      chained_again (field_at 4 (between 0 262144) form.TooMany) (λ n. offers_at accounts assets n None) (big_bytes 4)
      (flat_map offer_bytes) IsCount (SoMany assets some few accounts) length
      count_again (λ n is. offers_again assets some few accounts n) c offers after (is.few, many) within e
