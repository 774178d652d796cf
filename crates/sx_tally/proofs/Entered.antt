-- A tally with one transaction more, and the room that it has for one.
use Rattle.std.proofs.Common.{◌≡◌, ◌≢◌, ℕ, zero, suc, ◌+◌, ◌-◌, ◌*◌, ◌^◌, ◌<◌, ◌≤◌, ◌==◌, ◌&&◌, List, [], ◌∷◌}
use Rattle.std.proofs.Common.{◌++◌, All, length, get_or, replicate, set, Option, Some, None, Ok, inl, inr, refl, sym, ap, subst, ◌∙◌}
use Rattle.std.proofs.Common.{arith}
use Rattle.std.specs.Prelude.{slice_get}
use Rattle.std.specs.Int.Bits.{bit_or}
use Rattle.std.specs.Option.{option_map}
use Rattle.std.proofs.lemmas.Bool.{cases_Bool, cases_eq, leb-false, ltb-false}
use Rattle.std.proofs.lemmas.Grind.{get_or-set_at}
use Rattle.std.proofs.lemmas.List.{get_or-set_other, length-map}
use Rattle.std.proofs.lemmas.List.Elements.{All-head, All-tail}
use Rattle.std.proofs.lemmas.Option.{none-some, same_Some, slice_get-get_or, slice_get-map, slice_get_within}
use Rattle.sx_tally.specs.declared.tally.Tally.{Tally}
use Rattle.sx_tally.specs.declared.pending.Pending.{Pending}
use Rattle.sx_tally.specs.declared.entry.Entry.{Entry}
use Rattle.sx_tally.specs.Postings.{AreWithin, CanPost, HasRows, IsNonePending, credit_at, debit_at, units_in}
use Rattle.sx_ledger.specs.Repeats.{IsRepeat}
use Rattle.sx_tally.specs.Tally.{HasUsed, IsTally, IsTallyWithPending}
use Rattle.sx_tally.proofs.UsedNumbers.{marked, not_marked}
use Rattle.sx_ledger.specs.declared.account.Account.{Account}
use Rattle.sx_ledger.specs.declared.key.Key.{Key}
use Rattle.sx_ledger.specs.declared.offer.Offer.{Offer}
use Rattle.sx_ledger.specs.declared.parts.Parts.{Parts}
use Rattle.sx_ledger.specs.Body.{used_numbers}
use Rattle.sx_ledger.specs.Effects.{Posting, amount_of, credit_of, credits, debit_of, debits, posted}
use Rattle.sx_ledger.specs.Ledger.{IsLedger, IsOffer, assets_of, ids}
use Rattle.sx_ledger.specs.Order.{key_of, same_key}
use Rattle.sx_ledger.specs.Static.{static_of, window_of}
use Rattle.sx_ledger.proofs.Insertion.{id_of}
use Rattle.sx_ledger.proofs.Lookup.{mark_is, window_is}
use Rattle.sx_ledger.proofs.PlacesOfIds.{same_place}
use Rattle.sx_ledger.proofs.PostingTotals.{passes}
use Rattle.sx_tx.specs.declared.kind.Kind.{Kind}
use Rattle.sx_tx.specs.declared.kind.Kind.TheVariants as kind
use Rattle.sx_tx.specs.declared.tx.Tx.{Tx}
use Rattle.sx_tx.specs.declared.window.Window.{Window}
use Rattle.sx_tx.specs.Transactions.{IsKind, IsTx}
use Rattle.sx_tx.specs.Window.{open_numbers}

pub one_passes : (P : Tx → Type 0) (tx : Tx) → P tx → All P (tx ∷ [])
one_passes P tx p zero d lt = p
one_passes P tx p (suc k) d lt = absurd (omega arith)

-- ---- numbers

-- the account at the place is the transaction's own, and its number is open
pub record IsOpen (tx : Tx) (account : Account) : Type 0 where
  pub own : tx.account.0 ≡ account.id.0
  pub above : account.window.last < tx.seq
  pub within : tx.seq ≤ account.window.last + open_numbers

pub number_is_open : (parts : Parts) → IsLedger parts → (tx : Tx) → static_of parts tx ≡ Ok tt → (place : ℕ)
    (account : Account) → slice_get parts.accounts place ≡ Some account
    → slice_get (ids parts.accounts) place ≡ Some tx.account.0 → IsOpen tx account
number_is_open parts keeps tx pass place account there named =
    let own : tx.account.0 ≡ account.id.0 = mark_is id_of parts.accounts place tx.account.0 account there named in
    let passing = passes parts tx pass in
    let window : (window_of parts.accounts tx.account.0).last ≡ account.window.last =
    ap (λ (id : ℕ). (window_of parts.accounts id).last) own
    ∙ ap (λ (w : Window). w.last) (window_is parts.accounts place account there keeps.by_id) in
    record {
      own = own;
      above = omega (arith, window, leb-false tx.seq (window_of parts.accounts tx.account.0).last passing.above);
      within = omega (
        arith,
        window,
        ltb-false ((window_of parts.accounts tx.account.0).last + open_numbers) tx.seq passing.within,
      );
    }

module _ (parts : Parts) (keeps : IsLedger parts) (before : List Tx) (tx : Tx) (place : ℕ) (own : Account)
    (there : slice_get parts.accounts place ≡ Some own) (is_open : IsOpen tx own) (maps : List ℕ)
    (as_many : length maps ≡ length parts.accounts) (was : HasUsed parts before maps) where
  pub used_more : HasUsed parts (before ++ tx ∷ [])
      (set maps place (bit_or (get_or maps place 0) (2 ^ (tx.seq - own.window.last - 1))))
  used_more p account here =
      let map = bit_or (get_or maps place 0) (2 ^ (tx.seq - own.window.last - 1)) in
      elim (cases_eq p place) [
        | inl at ↦
            let same : account ≡ own =
            same_Some account own (sym here ∙ ap (slice_get parts.accounts) at ∙ there) in
            let within = slice_get_within parts.accounts place own there in
            get_or-set_at maps place p map 0 at (omega arith)
            ∙ ap (λ (w : ℕ). bit_or w (2 ^ (tx.seq - own.window.last - 1))) (was place own there)
            ∙ marked before tx own.id.0 own.window.last is_open.own is_open.above (omega (arith, is_open.above, is_open.within))
            ∙ ap (λ (a : Account). used_numbers (before ++ tx ∷ []) a.id.0 a.window.last) (sym same)
        | inr other ↦
            let differs : tx.account.0 ≢ account.id.0 =
            λ e. other (same_place (ids parts.accounts) keeps.by_id p place own.id.0
            (id_at p account here ∙ ap Some (sym e ∙ is_open.own)) (id_at place own there)) in
            get_or-set_other maps place p map 0 other ∙ was p account here
            ∙ not_marked before tx account.id.0 account.window.last differs
      ]
    where
      id_at : (q : ℕ) (a : Account) → slice_get parts.accounts q ≡ Some a
          → slice_get (ids parts.accounts) q ≡ Some a.id.0
      id_at q a at = slice_get-map id_of parts.accounts q ∙ ap (option_map id_of) at

-- ---- room

amount_small : (assets : ℕ) (accounts : List Account) (offers : List Offer) (key : Key)
    → All (IsOffer assets accounts) offers → amount_of offers key ≤ 2 ^ 62
amount_small assets accounts [] key all = omega arith
amount_small assets accounts (offer ∷ offers) key all =
    let P = IsOffer assets accounts in
    elim (cases_Bool (same_key (key_of offer) key)) [
      | inl same ↦ rw same (All-head P offer offers all).amount.1
      | inr other ↦ rw other (amount_small assets accounts offers key (All-tail P offer offers all))
    ]

posted_small : (posting : Posting) (account asset : ℕ) → posting.units ≤ 2 ^ 62
    → posted (Some posting) account asset ≤ 2 ^ 62
posted_small posting account asset small =
    elim (cases_Bool ((posting.account == account) && (posting.asset == asset))) [
      | inl here ↦ rw here small
      | inr other ↦ rw other (omega arith)
    ]

debit_small : (by account asset : ℕ) (k : Kind) → IsKind k → posted (debit_of by k) account asset ≤ 2 ^ 62
debit_small by account asset (kind.Pay paid to amount) is =
    posted_small (record { account = by; asset = paid; units = amount }) account asset is.2.1
debit_small by account asset (kind.Create id) is = omega arith
debit_small by account asset (kind.Offer sell buy limit amount) is =
    posted_small (record { account = by; asset = sell; units = amount }) account asset is.1.1
debit_small by account asset (kind.Cancel sell buy limit seq) is = omega arith

pub debits_small : (txs : List Tx) (account asset : ℕ) → All IsTx txs
    → debits txs account asset ≤ length txs * 2 ^ 62
debits_small [] account asset all = omega arith
debits_small (tx ∷ txs) account asset all =
    omega (
      arith,
      debit_small tx.account.0 account asset tx.kind (All-head IsTx tx txs all).kind,
      debits_small txs account asset (All-tail IsTx tx txs all),
    )

module _ (parts : Parts) (keeps : IsLedger parts) where
  credit_small : (by account asset : ℕ) (k : Kind) → IsKind k
      → posted (credit_of parts.offers by k) account asset ≤ 2 ^ 62
  credit_small by account asset (kind.Pay paid to amount) is =
      posted_small (record { account = to.0; asset = paid; units = amount }) account asset is.2.1
  credit_small by account asset (kind.Create id) is = omega arith
  credit_small by account asset (kind.Offer sell buy limit amount) is = omega arith
  credit_small by account asset (kind.Cancel sell buy limit seq) is =
      let key : Key = record { sell = sell; buy = buy; limit = limit; account = record { 0 = by }; seq = seq } in
      posted_small (record { account = by; asset = sell; units = amount_of parts.offers key }) account asset
      (amount_small (assets_of parts) parts.accounts parts.offers key keeps.offers)

  pub credits_small : (txs : List Tx) (account asset : ℕ) → All IsTx txs
      → credits parts.offers txs account asset ≤ length txs * 2 ^ 62
  credits_small [] account asset all = omega arith
  credits_small (tx ∷ txs) account asset all =
      omega (
        arith,
        credit_small tx.account.0 account asset tx.kind (All-head IsTx tx txs all).kind,
        credits_small txs account asset (All-tail IsTx tx txs all),
      )

  id_there : (p : ℕ) → p < length parts.accounts
      → slice_get (ids parts.accounts) p ≡ Some (get_or (ids parts.accounts) p 0)
  id_there p lt = slice_get-get_or (ids parts.accounts) p 0 (omega (arith, length-map parts.accounts id_of))

  -- however many transactions a list of the machine has
  module _ (txs : List Tx) (pending : Pending) (tally : Tally) (few : length txs < 2 ^ 64)
      (is : IsTallyWithPending parts txs pending tally) where
    rows_here : HasRows tally.postings (length tally.postings.starts.items) tally.postings.assets
    rows_here =
        subst (λ (w : ℕ). HasRows tally.postings (length tally.postings.starts.items) w) (sym is.shape.rows.assets)
        (subst (λ (n : ℕ). HasRows tally.postings n (assets_of parts)) (sym is.shape.rows.as_many) is.shape.rows)

    within_here : (entries : List Entry) → AreWithin (length parts.accounts) (assets_of parts) entries
        → AreWithin (length tally.postings.starts.items) tally.postings.assets entries
    within_here entries within =
        subst (λ (w : ℕ). AreWithin (length tally.postings.starts.items) w entries) (sym is.shape.rows.assets)
        (subst (λ (n : ℕ). AreWithin n (assets_of parts) entries) (sym is.shape.rows.as_many) within)

    pub can_debit : CanPost tally.postings debit_at pending.debits.items
    can_debit = record {
      rows = rows_here;
      within = within_here pending.debits.items is.postings.debits_within;
      room = λ p x p_there x_there.
          let at = id_there p (omega (arith, is.shape.rows.as_many)) in
          omega (
            arith,
            is.postings.debits p (get_or (ids parts.accounts) p 0) x at (omega (arith, is.shape.rows.assets)),
            debits_small txs (get_or (ids parts.accounts) p 0) x is.in_range,
          );
    }

    pub can_credit : CanPost tally.postings credit_at pending.credits.items
    can_credit = record {
      rows = rows_here;
      within = within_here pending.credits.items is.postings.credits_within;
      room = λ p x p_there x_there.
          let at = id_there p (omega (arith, is.shape.rows.as_many)) in
          omega (
            arith,
            is.postings.credits p (get_or (ids parts.accounts) p 0) x at (omega (arith, is.shape.rows.assets)),
            credits_small txs (get_or (ids parts.accounts) p 0) x is.in_range,
          );
    }

-- a tally is one of which nothing is pending
pub none_pending : (parts : Parts) (txs : List Tx) (pending : Pending) (tally : Tally) → IsNonePending pending
    → IsTally parts txs tally → IsTallyWithPending parts txs pending tally
none_pending parts txs pending tally none is = record {
  shape = is.shape;
  passes = is.passes;
  in_range = is.in_range;
  postings = record {
    debits_within = subst within (sym none.debits) (λ k d lt. absurd (omega arith));
    credits_within = subst within (sym none.credits) (λ k d lt. absurd (omega arith));
    debits = λ p account x there lt.
        omega (arith, is.postings.debits p account x there lt, ap (λ (es : List Entry). units_in es p x) none.debits);
    credits = λ p account x there lt.
        omega (arith, is.postings.credits p account x there lt, ap (λ (es : List Entry). units_in es p x) none.credits);
  };
  used = is.used;
  cancelled = is.cancelled;
  created = is.created;
  made = is.made;
}
  where
    within : List Entry → Type 0
    within = AreWithin (length parts.accounts) (assets_of parts)

-- ---- no transaction

pub zero_at : (n k : ℕ) → get_or (replicate {A = ℕ} n 0) k 0 ≡ 0
zero_at zero k = refl
zero_at (suc n) zero = refl
zero_at (suc n) (suc k) = zero_at n k

pub no_repeat : {X : Type 0} (does : Tx → Option X) (again : Option ℕ) → again ≡ None → IsRepeat does [] again
no_repeat does again none = subst (IsRepeat does []) (sym none) (record {
  first = tt;
  none = λ index r. none-some r.what r.again;
})
