-- Overdrafts of accounts at their places, and those of a body.
use Rattle.std.proofs.Common.{◌≡◌, ◌≢◌, ℕ, zero, suc, ◌+◌, ◌-◌, ◌<◌, ◌≤◌, true, false, ◌==◌, List, [], ◌∷◌, length, get_or}
use Rattle.std.proofs.Common.{All, Option, Some, None, inl, inr, refl, sym, ap, ap₂, subst, ◌∙◌, arith}
use Rattle.std.specs.Prelude.{IfNone, IfSome, nat_le, slice_get}
use Rattle.std.specs.List.Sorted.{IsStrictlyIncreasing}
use Rattle.std.specs.Option.{option_map}
use Rattle.std.proofs.lemmas.Bool.{and_right, cases_Bool, cases_lt, cases_order, leb-false, ne_eqb, or_parts}
use Rattle.std.proofs.lemmas.List.{length-map}
use Rattle.std.proofs.lemmas.List.Elements.{All-head, All-tail}
use Rattle.std.proofs.lemmas.Option.{get_or_from_slice_get, slice_get-map, slice_get_within}
use Rattle.sx_base.specs.declared.account_id.AccountId.{AccountId}
use Rattle.sx_ledger.specs.declared.overdraft.Overdraft.{Overdraft}
use Rattle.sx_tally.specs.declared.tally.Tally.{Tally}
use Rattle.sx_tally.specs.Overdraft.{AreCovered, CoversAt, IsFirstFrom, IsOverdraftAt}
use Rattle.sx_ledger.specs.Overdraft.{IsFirstOverdrawn, NoneOverdrawn}
use Rattle.sx_tally.specs.Overdraft.{may_spend}
use Rattle.sx_tally.specs.Postings.{credit_at, debit_at}
use Rattle.sx_tally.specs.Tally.{IsTally}
use Rattle.sx_ledger.specs.declared.account.Account.{Account}
use Rattle.sx_ledger.specs.declared.parts.Parts.{Parts}
use Rattle.sx_ledger.specs.Body.{holding_of, spendable}
use Rattle.sx_ledger.specs.Effects.{credits, debit_of, debits, posted}
use Rattle.sx_ledger.specs.Ledger.{IsAccount, IsLedger, assets_of, balance_at, ids}
use Rattle.sx_ledger.specs.Static.{has_account, names_beyond}
use Rattle.sx_ledger.proofs.Insertion.{id_of}
use Rattle.sx_ledger.proofs.Lookup.{entry_at}
use Rattle.sx_ledger.proofs.PlacesOfIds.{holding_at, stands}
use Rattle.sx_ledger.proofs.PostingTotals.{Passes, passes}
use Rattle.sx_tx.specs.declared.kind.Kind.{Kind}
use Rattle.sx_tx.specs.declared.kind.Kind.TheVariants as kind
use Rattle.sx_tx.specs.declared.tx.Tx.{Tx}

-- ---- what is debited where nothing can be

no_debit : (by account asset : ℕ) (k : Kind) → (by == account) ≡ false → posted (debit_of by k) account asset ≡ 0
no_debit by account asset (kind.Pay paid to amount) other = rw other refl
no_debit by account asset (kind.Create id) other = refl
no_debit by account asset (kind.Offer sell buy limit amount) other = rw other refl
no_debit by account asset (kind.Cancel sell buy limit seq) other = refl

-- an account that is not there has none
pub debits_elsewhere : (parts : Parts) (id asset : ℕ) (txs : List Tx) → has_account parts.accounts id ≡ false
    → All (Passes parts) txs → debits txs id asset ≡ 0
debits_elsewhere parts id asset [] absent passing = refl
debits_elsewhere parts id asset (tx ∷ txs) absent passing =
    let own = (All-head (Passes parts) tx txs passing).own in
    let other : tx.account.0 ≢ id =
    λ e. (let there : has_account parts.accounts id ≡ true = ap (has_account parts.accounts) (sym e) ∙ own in cc) in
    omega (
      arith,
      no_debit tx.account.0 id asset tx.kind (ne_eqb tx.account.0 id other),
      debits_elsewhere parts id asset txs absent (All-tail (Passes parts) tx txs passing),
    )

beyond_one : (by account assets asset : ℕ) (k : Kind) → names_beyond assets k ≡ false → assets ≤ asset
    → posted (debit_of by k) account asset ≡ 0
beyond_one by account assets asset (kind.Pay paid to amount) within beyond =
    let lt : paid < assets = leb-false assets paid within in
    rw (ne_eqb paid asset (λ e. absurd (omega arith)), and_right (by == account) false refl) refl
beyond_one by account assets asset (kind.Create id) within beyond = refl
beyond_one by account assets asset (kind.Offer sell buy limit amount) within beyond =
    let lt : sell < assets = leb-false assets sell (or_parts (nat_le assets sell) (nat_le assets buy) within).0 in
    rw (ne_eqb sell asset (λ e. absurd (omega arith)), and_right (by == account) false refl) refl
beyond_one by account assets asset (kind.Cancel sell buy limit seq) within beyond = refl

-- an asset that is not there has none
pub debits_beyond : (parts : Parts) (id asset : ℕ) (txs : List Tx) → assets_of parts ≤ asset
    → All (Passes parts) txs → debits txs id asset ≡ 0
debits_beyond parts id asset [] beyond passing = refl
debits_beyond parts id asset (tx ∷ txs) beyond passing =
    omega (
      arith,
      beyond_one tx.account.0 id (assets_of parts) asset tx.kind (All-head (Passes parts) tx txs passing).assets beyond,
      debits_beyond parts id asset txs beyond (All-tail (Passes parts) tx txs passing),
    )

-- ---- places in order

rises : (xs : List ℕ) → IsStrictlyIncreasing xs → (i k : ℕ) → i + k + 1 < length xs
    → get_or xs i 0 < get_or xs (i + k + 1) 0
rises xs up i zero lt = let same : i + zero + 1 ≡ i + 1 = omega arith in rw same (up i (omega arith))
rises xs up i (suc k) lt =
    let before : get_or xs i 0 < get_or xs (i + k + 1) 0 = rises xs up i k (omega arith) in
    let step : get_or xs (i + k + 1) 0 < get_or xs (i + k + 1 + 1) 0 = up (i + k + 1) (omega arith) in
    let same : i + suc k + 1 ≡ i + k + 1 + 1 = omega arith in
    rw same (omega arith)

pub rises_to : (xs : List ℕ) → IsStrictlyIncreasing xs → (i j : ℕ) → i < j → j < length xs →
    get_or xs i 0 < get_or xs j 0
rises_to xs up i j lt in_range =
    let same : i + (j - i - 1) + 1 ≡ j = omega arith in
    rw same at (rises xs up i (j - i - 1) (omega arith))

-- ---- from places to accounts

module _ (version : ℕ) (parts : Parts) (keeps : IsLedger parts) (txs : List Tx) (tally : Tally)
    (is : IsTally parts txs tally) where
  passing : All (Passes parts) txs
  passing = λ k d lt. passes parts (get_or txs k d) (is.passes k d lt)

  module _ (place : ℕ) (account : Account) (there : slice_get parts.accounts place ≡ Some account) where
    id_there : slice_get (ids parts.accounts) place ≡ Some account.id.0
    id_there = slice_get-map id_of parts.accounts place ∙ ap (option_map id_of) there

    in_list : get_or parts.accounts place account ≡ account
    in_list = get_or_from_slice_get parts.accounts place account account there

    wide : length account.balances ≡ assets_of parts
    wide =
        (subst (IsAccount (parts.version) (assets_of parts)) in_list
        (keeps.accounts place account (slice_get_within parts.accounts place account there))).balances

    holds : (asset : ℕ) → holding_of parts.accounts account.id.0 asset ≡ balance_at asset account
    holds asset =
        subst (λ (a : Account). holding_of parts.accounts a.id.0 asset ≡ balance_at asset a) in_list
        (holding_at parts.accounts keeps.by_id asset place account
        (slice_get_within parts.accounts place account there))

    spends : (asset : ℕ) → asset < assets_of parts
        → may_spend version (balance_at asset account) (credit_at tally.postings place asset)
        ≡ spendable version parts txs account.id.0 asset
    spends asset lt =
        ap₂ (may_spend version) (sym (holds asset)) (is.postings.credits place account.id.0 asset id_there lt)

    taken : (asset : ℕ) → asset < assets_of parts
        → debit_at tally.postings place asset ≡ debits txs account.id.0 asset
    taken asset lt = is.postings.debits place account.id.0 asset id_there lt

    cover : CoversAt version parts tally.postings place → (asset : ℕ)
        → debits txs account.id.0 asset ≤ spendable version parts txs account.id.0 asset
    cover covered asset =
        elim (cases_lt asset (assets_of parts)) [
          | inl within ↦ omega (
            arith,
            taken asset within,
            spends asset within,
            covered account there asset (omega (arith, wide)),
          )
          | inr beyond ↦ omega (arith, debits_beyond parts account.id.0 asset txs beyond passing)
        ]

  -- an account whose place is below n
  covers : (n : ℕ) → ((k : ℕ) → k < n → CoversAt version parts tally.postings k) → (account asset : ℕ)
      → ((place : ℕ) → slice_get (ids parts.accounts) place ≡ Some account → place < n)
      → debits txs account asset ≤ spendable version parts txs account asset
  covers n covered account asset below =
      elim (cases_Bool (has_account parts.accounts account)) [
        | inl here ↦
            let at = stands parts.accounts account here in
            let found = entry_at id_of parts.accounts at.place account at.there in
            subst (λ (id : ℕ). debits txs id asset ≤ spendable version parts txs id asset) (sym found.2)
            (cover at.place found.0 found.1 (covered at.place (below at.place at.there)) asset)
        | inr absent ↦ omega (arith, debits_elsewhere parts account asset txs absent passing)
      ]

  pub none_overdrawn : ((k : ℕ) → k < length parts.accounts → CoversAt version parts tally.postings k)
      → NoneOverdrawn version parts txs
  none_overdrawn covered account asset =
      covers (length parts.accounts) covered account asset
      (λ place there. omega (
        arith,
        slice_get_within (ids parts.accounts) place account there,
        length-map parts.accounts id_of,
      ))

  earlier : (k place own other : ℕ) → slice_get (ids parts.accounts) k ≡ Some own → other < own
      → slice_get (ids parts.accounts) place ≡ Some other → place < k
  earlier k place own other here smaller there =
      let mine = get_or_from_slice_get (ids parts.accounts) k own 0 here in
      let found = get_or_from_slice_get (ids parts.accounts) place other 0 there in
      elim (cases_order place k) [
        | inl same ↦ absurd (omega (arith, ap (λ (j : ℕ). get_or (ids parts.accounts) j 0) same))
        | inr (inl before) ↦ before
        | inr (inr behind) ↦ absurd (omega (
          arith,
          rises_to (ids parts.accounts) keeps.by_id k place behind
              (slice_get_within (ids parts.accounts) place other there),
        ))
      ]

  pub is_first : (place : ℕ) → ((k : ℕ) → k < place → CoversAt version parts tally.postings k)
      → (overdraft : Overdraft) → IsOverdraftAt version parts tally.postings place overdraft
      → IsFirstOverdrawn version parts txs overdraft
  is_first place covered overdraft at =
      let account = at.account in
      let there = at.there in
      let id : overdraft.account.0 ≡ account.id.0 = ap (λ (x : AccountId). x.0) at.id in
      let within : overdraft.asset < assets_of parts = omega (arith, at.asset, wide place account there) in
      record {
        opening = at.opening ∙ sym (ap (λ (x : ℕ). holding_of parts.accounts x overdraft.asset) id
            ∙ holds place account there overdraft.asset);
        given = at.given ∙ is.postings.credits place account.id.0 overdraft.asset (id_there place account there) within
            ∙ ap (λ (x : ℕ). credits parts.offers txs x overdraft.asset) (sym id);
        taken = at.taken ∙ taken place account there overdraft.asset within
            ∙ ap (λ (x : ℕ). debits txs x overdraft.asset) (sym id);
        over = omega (
          arith,
          at.over,
          ap₂ (may_spend version) at.opening at.given,
          spends place account there overdraft.asset within,
          ap (λ (x : ℕ). spendable version parts txs x overdraft.asset) id,
        );
        accounts_before = λ other asset smaller. covers place covered other asset
            (λ p found. earlier place p account.id.0 other (id_there place account there) (omega arith) found);
        assets_before = λ asset before.
            let inside : asset < assets_of parts = omega arith in
            subst (λ (x : ℕ). debits txs x asset ≤ spendable version parts txs x asset) (sym id)
            (omega (
              arith,
              at.before asset before,
              taken place account there asset inside,
              spends place account there asset inside,
            ));
      }

  pub first_of_all : (found : Option Overdraft) → IfSome found (IsFirstFrom version parts tally.postings 0)
      → IfSome found (IsFirstOverdrawn version parts txs)
  first_of_all None first = tt
  first_of_all (Some overdraft) first =
      is_first first.place (λ k lt. first.before k (omega arith) lt) overdraft first.here

  pub none_of_all : (found : Option Overdraft)
      → IfNone found (AreCovered version parts tally.postings 0 (length parts.accounts))
      → IfNone found (NoneOverdrawn version parts txs)
  none_of_all None covered = none_overdrawn (λ k lt. covered k (omega arith) lt)
  none_of_all (Some overdraft) covered = tt
