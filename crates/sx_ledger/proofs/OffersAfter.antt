-- The offers after the body of a block: their order, and their fields.
use Rattle.std.proofs.Common.{◌≡◌, ◌≢◌, ℕ, ◌<◌, ◌≤◌, true, false, ◌==◌, ◌&&◌, List, [], ◌∷◌, All}
use Rattle.std.proofs.Common.{Option, Some, inl, inr, sym, ap, ◌∙◌, arith}
use Rattle.std.specs.Prelude.{nat_le, nat_lt}
use Rattle.std.specs.List.{AllByRecursion, cons_option}
use Rattle.std.specs.List.Sorted.{IsStrictlyIncreasing}
use Rattle.std.proofs.lemmas.Bool.{both_ways, eqb-false, eqb-true, leb-false, ltb-true, or_cases, or_from}
use Rattle.std.proofs.lemmas.Bool.{or_left, or_parts, or_right}
use Rattle.std.proofs.lemmas.List.Elements.{All-head, All-tail}
use Rattle.sx_bytes.specs.Grammar.{in_order, may_follow}
use Rattle.sx_bytes.proofs.Ordered.{and_parts}
use Rattle.sx_ledger.specs.declared.account.Account.{Account}
use Rattle.sx_ledger.specs.declared.key.Key.{Key}
use Rattle.sx_ledger.specs.declared.offer.Offer.{Offer}
use Rattle.sx_ledger.specs.declared.parts.Parts.{Parts}
use Rattle.sx_ledger.specs.Body.{made, made_by, tx_before, uses}
use Rattle.sx_ledger.specs.Ledger.{IsOffer, assets_of, has_owner, ids}
use Rattle.sx_ledger.specs.Order.{key_before, key_of}
use Rattle.sx_ledger.specs.Static.{has_account, is_same_pair, names_beyond, window_of}
use Rattle.sx_ledger.proofs.Insertion.{Apart, AreApart, id_of}
use Rattle.sx_ledger.proofs.KeyOrder.{before_or_after}
use Rattle.sx_ledger.proofs.Lookup.{entry_at, owner_is, window_is}
use Rattle.sx_ledger.proofs.PlacesOfIds.{stands}
use Rattle.sx_ledger.proofs.PostingTotals.{Passes}
use Rattle.sx_tx.specs.declared.kind.Kind.{Kind}
use Rattle.sx_tx.specs.declared.kind.Kind.TheVariants as kind
use Rattle.sx_tx.specs.declared.tx.Tx.{Tx}
use Rattle.sx_tx.specs.declared.window.Window.{Window}
use Rattle.sx_tx.specs.Transactions.{IsKind, IsTx}
use Rattle.sx_tx.specs.Window.{is_marked, is_used}

-- ---- transactions in order

-- a transaction stands after another
record Later (tx other : Tx) : Type 0 where
  account : tx.account.0 ≤ other.account.0
  seq : other.account.0 ≡ tx.account.0 → tx.seq < other.seq

later : (tx other : Tx) → tx_before tx other ≡ true → Later tx other
later tx other before =
    elim (or_cases (nat_lt tx.account.0 other.account.0)
    ((tx.account.0 == other.account.0) && nat_lt tx.seq other.seq) before) [
      | inl less ↦ let lt : tx.account.0 < other.account.0 =
          ltb-true _ _ less in record { account = omega arith; seq = λ same. absurd (omega arith) }
      | inr same ↦
          let both = and_parts (tx.account.0 == other.account.0) (nat_lt tx.seq other.seq) same in
          let equal : tx.account.0 ≡ other.account.0 = eqb-true _ _ both.0 in
          record { account = omega arith; seq = λ _. ltb-true _ _ both.1 }
    ]

later_both : (x y z : Tx) → Later x y → Later y z → Later x z
later_both x y z one two =
    let first : x.account.0 ≤ y.account.0 = one.account in
    let second : y.account.0 ≤ z.account.0 = two.account in
    record {
      account = omega arith;
      seq = λ same.
          let to_y : y.account.0 ≡ x.account.0 = omega arith in
          let to_z : z.account.0 ≡ y.account.0 = omega arith in
          omega (arith, one.seq to_y, two.seq to_z);
    }

all_later : (x tx : Tx) (txs : List Tx) → Later x tx → in_order tx_before (Some tx) txs ≡ true
    → AllByRecursion (Later x) txs
all_later x tx [] first ordered = tt
all_later x tx (next ∷ txs) first ordered =
    let both = and_parts (tx_before tx next) (in_order tx_before (Some next) txs) ordered in
    let here = later_both x tx next first (later tx next both.0) in
    (here, all_later x next txs here both.1)

others_later : (tx : Tx) (txs : List Tx) → in_order tx_before (Some tx) txs ≡ true → AllByRecursion (Later tx) txs
others_later tx [] ordered = tt
others_later tx (next ∷ txs) ordered =
    let both = and_parts (tx_before tx next) (in_order tx_before (Some next) txs) ordered in
    let here = later tx next both.0 in
    (here, all_later tx next txs here both.1)

-- ---- new keys

-- an offer is not of this account and this sequence number
abbrev Fresh : ℕ → ℕ → Offer → Type 0
Fresh account seq offer = offer.account.0 ≡ account → offer.seq ≢ seq

apart_from_fresh : (new offer : Offer) → Fresh new.account.0 new.seq offer → Apart key_of key_before new offer
apart_from_fresh new offer fresh =
    before_or_after (key_of new) (key_of offer)
    (λ same. fresh (ap (λ (key : Key). key.account.0) same) (ap (λ (key : Key). key.seq) same))

all_apart : (new : Offer) (offers : List Offer) → AllByRecursion (Fresh new.account.0 new.seq) offers
    → AllByRecursion (Apart key_of key_before new) offers
all_apart new [] fresh = tt
all_apart new (offer ∷ offers) fresh = (apart_from_fresh new offer fresh.0, all_apart new offers fresh.1)

-- offers that are made later have greater sequence numbers
made_later : (tx : Tx) (txs : List Tx) → AllByRecursion (Later tx) txs
    → AllByRecursion (Fresh tx.account.0 tx.seq) (made txs)
made_later tx [] all = tt
made_later tx (other ∷ txs) all = one other.kind (made txs) (made_later tx txs all.1)
  where
    one : (k : Kind) (rest : List Offer) → AllByRecursion (Fresh tx.account.0 tx.seq) rest
        → AllByRecursion (Fresh tx.account.0 tx.seq) (cons_option (made_by other k) rest)
    one (kind.Pay asset to amount) rest fresh = fresh
    one (kind.Create id) rest fresh = fresh
    one (kind.Offer sell buy limit amount) rest fresh = (λ same e. absurd (omega (arith, all.0.seq same)), fresh)
    one (kind.Cancel sell buy limit seq) rest fresh = fresh

-- ---- owners

pub owner_there : (accounts : List Account) (offer : Offer) → has_owner accounts offer ≡ true
    → has_account accounts offer.account.0 ≡ true
owner_there [] offer owned = absurd cc
owner_there (account ∷ accounts) offer owned =
    elim (or_cases ((account.id.0 == offer.account.0) && is_used account.window offer.seq)
    (has_owner accounts offer) owned) [
      | inl here ↦ or_left (account.id.0 == offer.account.0) (has_account accounts offer.account.0)
          (and_parts (account.id.0 == offer.account.0) (is_used account.window offer.seq) here).0
      | inr there ↦ or_right (account.id.0 == offer.account.0) (has_account accounts offer.account.0)
          (owner_there accounts offer there)
    ]

-- the sequence number of an offer is one that its account has used
pub owner_used : (accounts : List Account) → IsStrictlyIncreasing (ids accounts) → (offer : Offer)
    → has_owner accounts offer ≡ true → is_used (window_of accounts offer.account.0) offer.seq ≡ true
owner_used accounts up offer owned =
    let at = stands accounts offer.account.0 (owner_there accounts offer owned) in
    let found = entry_at id_of accounts at.place offer.account.0 at.there in
    let window : window_of accounts offer.account.0 ≡ found.0.window = ap (window_of accounts) found.2
    ∙ window_is accounts at.place found.0 found.1 up in
    ap (λ (window : Window). is_used window offer.seq) window
    ∙ sym (owner_is accounts at.place found.0 found.1 up offer found.2) ∙ owned

module _ (parts : Parts) (up : IsStrictlyIncreasing (ids parts.accounts)) where
  -- an offer that was there is of a sequence number that its account has used
  kept_fresh : (account seq : ℕ) → is_used (window_of parts.accounts account) seq ≡ false → (offers : List Offer)
      → All (IsOffer (assets_of parts) parts.accounts) offers
      → AllByRecursion (Fresh account seq) offers
  kept_fresh account seq unused [] are = tt
  kept_fresh account seq unused (offer ∷ offers) are =
      let here = All-head (IsOffer (assets_of parts) parts.accounts) offer offers are in
      let used = owner_used parts.accounts up offer here.owner in
      let fresh : Fresh account seq offer = λ same e.
      both_ways (is_used (window_of parts.accounts account) seq) unused
      (ap (λ (number : ℕ). is_used (window_of parts.accounts account) number) (sym e)
      ∙ ap (λ (id : ℕ). is_used (window_of parts.accounts id) offer.seq) (sym same) ∙ used) in (
        fresh,
        kept_fresh account seq unused offers
            (All-tail (IsOffer (assets_of parts) parts.accounts) offer offers are),
      )

  -- a number of a transaction that passes is not used before
  passes_unused : (tx : Tx) → Passes parts tx → is_used (window_of parts.accounts tx.account.0) tx.seq ≡ false
  passes_unused tx passes =
      or_from (nat_le tx.seq (window_of parts.accounts tx.account.0).last)
      (is_marked (window_of parts.accounts tx.account.0) tx.seq) passes.above passes.unmarked

  pub made_apart : (kept : List Offer) → All (IsOffer (assets_of parts) parts.accounts) kept
      → (previous : Option Tx) (txs : List Tx) → in_order tx_before previous txs ≡ true
      → All (Passes parts) txs → AreApart key_of key_before (made txs) kept
  made_apart kept are previous [] ordered passing = tt
  made_apart kept are previous (tx ∷ txs) ordered passing =
      let both = and_parts (may_follow tx_before previous tx) (in_order tx_before (Some tx) txs) ordered in
      one tx.kind (made txs) both.1 (made_later tx txs (others_later tx txs both.1))
      (made_apart kept are (Some tx) txs both.1 (All-tail (Passes parts) tx txs passing))
    where
      one : (k : Kind) (rest : List Offer) → in_order tx_before (Some tx) txs ≡ true
          → AllByRecursion (Fresh tx.account.0 tx.seq) rest → AreApart key_of key_before rest kept
          → AreApart key_of key_before (cons_option (made_by tx k) rest) kept
      one (kind.Pay asset to amount) rest ordered fresh apart = apart
      one (kind.Create id) rest ordered fresh apart = apart
      one (kind.Offer sell buy limit amount) rest ordered fresh apart =
          let new : Offer = record {
            sell = sell;
            buy = buy;
            limit = limit;
            account = tx.account;
            seq = tx.seq;
            amount = amount;
          } in
          let here = All-head (Passes parts) tx txs passing in (
            all_apart new rest fresh,
            all_apart new kept (kept_fresh tx.account.0 tx.seq (passes_unused tx here) kept are),
            apart,
          )
      one (kind.Cancel sell buy limit seq) rest ordered fresh apart = apart

-- ---- the fields of new offers

-- an offer of two different assets out of `assets`, by an account that is there, under a number that it uses
pub record IsMade (parts : Parts) (all : List Tx) (offer : Offer) : Type 0 where
  pub there : has_account parts.accounts offer.account.0 ≡ true
  pub used : uses all offer.account.0 offer.seq ≡ true
  pub fields : (accounts : List Account) → has_owner accounts offer ≡ true → IsOffer (assets_of parts) accounts offer

pub all_made : (parts : Parts) (all txs : List Tx) → All IsTx txs → All (Passes parts) txs
    → AllByRecursion (λ tx. uses all tx.account.0 tx.seq ≡ true) txs
    → AllByRecursion (IsMade parts all) (made txs)
all_made parts all [] in_range passing used = tt
all_made parts all (tx ∷ txs) in_range passing used =
    let is = All-head IsTx tx txs in_range in
    let here = All-head (Passes parts) tx txs passing in
    one tx.kind (made txs) is.kind here.assets here.differ
    (all_made parts all txs (All-tail IsTx tx txs in_range) (All-tail (Passes parts) tx txs passing) used.1)
  where
    one : (k : Kind) (rest : List Offer) → IsKind k → names_beyond (assets_of parts) k ≡ false
        → is_same_pair k ≡ false
        → AllByRecursion (IsMade parts all) rest → AllByRecursion (IsMade parts all) (cons_option (made_by tx k) rest)
    one (kind.Pay asset to amount) rest is assets differ made = made
    one (kind.Create id) rest is assets differ made = made
    one (kind.Offer sell buy limit amount) rest is assets differ made =
        let both = or_parts (nat_le (assets_of parts) sell) (nat_le (assets_of parts) buy) assets in
        let tx_is = All-head IsTx tx txs in_range in (
          record {
            there = (All-head (Passes parts) tx txs passing).own;
            used = used.0;
            fields = λ accounts owner. record {
              sell = leb-false _ _ both.0;
              buy = leb-false _ _ both.1;
              differ = λ e. eqb-false sell buy differ (sym e);
              limit = is.0.2;
              account = tx_is.account;
              seq = tx_is.seq;
              amount = is.1;
              owner = owner;
            };
          },
          made,
        )
    one (kind.Cancel sell buy limit seq) rest is assets differ made = made
