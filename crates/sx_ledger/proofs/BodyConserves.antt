-- The body of a block makes and loses nothing.
use Rattle.std.proofs.Common.{◌≡◌, ℕ, zero, suc, ◌+◌, ◌-◌, ◌<◌, ◌≤◌, false, ◌==◌, List, [], ◌∷◌, length, get_or}
use Rattle.std.proofs.Common.{map, replicate, All, sum_by, inl, inr, refl, sym, ◌∙◌, arith}
use Rattle.std.specs.List.{AllByRecursion}
use Rattle.std.proofs.lemmas.Bool.{cases_Bool}
use Rattle.std.specs.Prelude.{nat_lt}
use Rattle.std.proofs.lemmas.List.Elements.{All-head, All-tail}
use Rattle.std.proofs.lemmas.List.Folds.{fold-map}
use Rattle.std.proofs.lemmas.List.Sums.{sum_by-cons}
use Rattle.sx_ledger.specs.declared.account.Account.{Account}
use Rattle.sx_ledger.specs.declared.offer.Offer.{Offer}
use Rattle.sx_ledger.specs.declared.parts.Parts.{Parts}
use Rattle.sx_ledger.specs.Body.{IsAdmissibleIn, account_after, accounts_after, balances_after, cancelled}
use Rattle.sx_ledger.specs.Body.{cancelled_by, created, holding_of, kept_offers, made, made_by, new_account}
use Rattle.sx_ledger.specs.Body.{put_account, put_accounts, spendable}
use Rattle.sx_ledger.specs.Effects.{credit, credit_of, credits, debit, debit_of, debits}
use Rattle.sx_ledger.specs.EffectLaws.{BodyConserves}
use Rattle.sx_ledger.specs.Ledger.{IsLedger, assets_of, balance_at, offered}
use Rattle.sx_ledger.specs.Static.{has_account}
use Rattle.sx_ledger.proofs.ListSums.{counted, sum_by-add, sum_by-filter_map, sum_by-moved, sum_by-same}
use Rattle.sx_ledger.proofs.PostingTotals.{Passes, created_absent, credits_elsewhere, credits_in_all, credits_there}
use Rattle.sx_ledger.proofs.PostingTotals.{debits_in_all, debits_there, passes, units_of}
use Rattle.sx_ledger.proofs.OfferTotals.{freed, kept_sum, put_all}
use Rattle.sx_ledger.proofs.PlacesOfIds.{holding_at}
use Rattle.sx_tx.specs.declared.kind.Kind.{Kind}
use Rattle.sx_tx.specs.declared.kind.Kind.TheVariants as kind
use Rattle.sx_tx.specs.declared.tx.Tx.{Tx}

-- ---- accounts that are created

put_one : (f : Account → ℕ) (new : Account) (accounts : List Account)
    → sum_by f (put_account new accounts) ≡ f new + sum_by f accounts
put_one f new [] = sum_by-cons f new []
put_one f new (account ∷ accounts) =
    elim (cases_Bool (nat_lt new.id.0 account.id.0)) [
      | inl before ↦ rw before (sum_by-cons f new (account ∷ accounts))
      | inr later ↦ rw later
          (omega (
            arith,
            sum_by-cons f account (put_account new accounts),
            sum_by-cons f account accounts,
            put_one f new accounts,
          ))
    ]

put_all_accounts : (f : Account → ℕ) (new accounts : List Account)
    → sum_by f (put_accounts new accounts) ≡ sum_by f new + sum_by f accounts
put_all_accounts f [] accounts = omega arith
put_all_accounts f (one ∷ new) accounts =
    omega (arith, put_one f one (put_accounts new accounts), put_all_accounts f new accounts, sum_by-cons f one new)

-- nothing is held where nothing was and nothing is credited
holds_nothing : (offers : List Offer) (txs : List Tx) (id start n asset : ℕ)
    → ((asset : ℕ) → credits offers txs id asset ≡ 0)
    → get_or (balances_after offers txs id start (replicate n 0)) asset 0 ≡ 0
holds_nothing offers txs id start zero asset none = refl
holds_nothing offers txs id start (suc n) zero none = omega (arith, none start)
holds_nothing offers txs id start (suc n) (suc asset) none = holds_nothing offers txs id (suc start) n asset none

new_hold_nothing : (parts : Parts) (txs : List Tx) (asset : ℕ) → All (Passes parts) txs → (new : List ℕ)
    → AllByRecursion (λ id. has_account parts.accounts id ≡ false) new
    → sum_by (balance_at asset) (map (new_account parts txs) new) ≡ 0
new_hold_nothing parts txs asset all [] absent = refl
new_hold_nothing parts txs asset all (id ∷ new) absent =
    let here : balance_at asset (new_account parts txs id) ≡ 0 =
    holds_nothing parts.offers txs id 0 (assets_of parts) asset
    (λ asset. credits_elsewhere parts.accounts parts.offers id asset txs absent.0 (credits_there parts txs all))
    in
    omega (
      arith,
      sum_by-cons (balance_at asset) (new_account parts txs id) (map (new_account parts txs) new),
      new_hold_nothing parts txs asset all new absent.1,
    )

-- ---- accounts that were there

balances_after-at : (offers : List Offer) (txs : List Tx) (account start : ℕ) (balances : List ℕ) (asset : ℕ)
    → asset < length balances
    → get_or (balances_after offers txs account start balances) asset 0
    ≡ (get_or balances asset 0 + credits offers txs account (start + asset)) - debits txs account (start + asset)
balances_after-at offers txs account start [] asset lt = absurd (omega arith)
balances_after-at offers txs account start (balance ∷ balances) zero lt = let same : start + zero ≡ start =
    omega arith in rw same refl
balances_after-at offers txs account start (balance ∷ balances) (suc asset) lt =
    let same : suc start + asset ≡ start + suc asset = omega arith in
    rw same at (balances_after-at offers txs account (suc start) balances asset (omega arith))

balance_after : (parts : Parts) (txs : List Tx) (account : Account) (asset : ℕ) → asset < length account.balances
    → balance_at asset (account_after parts txs account)
    ≡ (balance_at asset account + credits parts.offers txs account.id.0 asset) - debits txs account.id.0 asset
balance_after parts txs account asset lt =
    let same : 0 + asset ≡ asset = omega arith in
    rw same at (balances_after-at parts.offers txs account.id.0 0 account.balances asset lt)

sum_by-alike : {X : Type 0} (f g : X → ℕ) (xs : List X) → All (λ x. f x ≡ g x) xs → sum_by f xs ≡ sum_by g xs
sum_by-alike f g [] alike = refl
sum_by-alike f g (x ∷ xs) alike =
    omega (
      arith,
      sum_by-cons f x xs,
      sum_by-cons g x xs,
      All-head (λ x. f x ≡ g x) x xs alike,
      sum_by-alike f g xs (All-tail (λ x. f x ≡ g x) x xs alike),
    )

-- in each version what an account holds and its credits cover its debits
pub covered_by_both : (version : ℕ) (parts : Parts) (txs : List Tx) → IsAdmissibleIn version parts txs
    → (account asset : ℕ)
    → debits txs account asset ≤ holding_of parts.accounts account asset + credits parts.offers txs account asset
covered_by_both version parts txs body account asset =
    let covered : debits txs account asset ≤ spendable version parts txs account asset = body.covered account asset in
    elim (cases_Bool (version == 1)) [
      | inl first ↦
          let held : debits txs account asset ≤ holding_of parts.accounts account asset = rw first at covered in
          omega arith
      | inr later ↦ rw later at covered
    ]

-- balances gain the credits and lose the debits
accounts_sum : (version : ℕ) (parts : Parts) (txs : List Tx) (asset : ℕ) → IsLedger parts
    → IsAdmissibleIn version parts txs → All (Passes parts) txs → asset < assets_of parts
    → sum_by (balance_at asset) (accounts_after parts txs) + sum_by (λ tx. units_of (debit tx) asset) txs
    ≡ sum_by (balance_at asset) parts.accounts + sum_by (λ tx. units_of (credit parts.offers tx) asset) txs
accounts_sum version parts txs asset keeps body all lt =
    let accounts = parts.accounts in
    let number = λ (account : Account). account.id.0 in
    let taken = λ (account : Account). debits txs account.id.0 asset in
    let given = λ (account : Account). credits parts.offers txs account.id.0 asset in
    let debited : sum_by taken accounts ≡ sum_by (λ tx. units_of (debit tx) asset) txs =
    sym (fold-map (λ s x. s + debits txs x asset) number 0 accounts)
    ∙ debits_in_all accounts keeps.by_id asset txs (debits_there parts txs all) in
    let credited : sum_by given accounts ≡ sum_by (λ tx. units_of (credit parts.offers tx) asset) txs =
    sym (fold-map (λ s x. s + credits parts.offers txs x asset) number 0 accounts)
    ∙ credits_in_all accounts keeps.by_id parts.offers asset txs (credits_there parts txs all) in
    let covers : All (λ account. taken account ≤ balance_at asset account + given account) accounts =
    λ k d below. let held = holding_at accounts keeps.by_id asset k d below in
    let cover = covered_by_both version parts txs body (get_or accounts k d).id.0 asset in omega arith in
    let each : All (λ account. balance_at asset (account_after parts txs account)
    ≡ (balance_at asset account + given account) - taken account) accounts =
    λ k d below. balance_after parts txs (get_or accounts k d) asset (let wide =
    (keeps.accounts k d below).balances in omega (arith, wide)) in
    let kept : sum_by (balance_at asset) (map (account_after parts txs) accounts)
    ≡ sum_by (λ account. (balance_at asset account + given account) - taken account) accounts =
    fold-map (λ s x. s + balance_at asset x) (account_after parts txs) 0 accounts ∙ sum_by-alike _ _ accounts each in
    let new : sum_by (balance_at asset) (map (new_account parts txs) (created txs)) ≡ 0 =
    new_hold_nothing parts txs asset all (created txs) (created_absent parts txs all) in
    let whole = put_all_accounts (balance_at asset) (map (new_account parts txs) (created txs))
    (map (account_after parts txs) accounts) in
    omega (arith, whole, kept, new, debited, credited, sum_by-moved (balance_at asset) taken given accounts covers)

-- ---- one transaction

one_moves : (offers : List Offer) (tx : Tx) (k : Kind) (asset : ℕ)
    → units_of (debit_of tx.account.0 k) asset + counted (freed offers asset) (cancelled_by tx k)
    ≡ units_of (credit_of offers tx.account.0 k) asset + counted (offered asset) (made_by tx k)
one_moves offers tx (kind.Pay paid to amount) asset = refl
one_moves offers tx (kind.Create id) asset = refl
one_moves offers tx (kind.Offer sell buy limit amount) asset = omega arith
one_moves offers tx (kind.Cancel sell buy limit seq) asset = omega arith

-- what is debited and what is set free is what is credited and what is put on offer
all_move : (offers : List Offer) (asset : ℕ) (txs : List Tx)
    → sum_by (λ tx. units_of (debit tx) asset) txs + sum_by (freed offers asset) (cancelled txs)
    ≡ sum_by (λ tx. units_of (credit offers tx) asset) txs + sum_by (offered asset) (made txs)
all_move offers asset txs =
    let freed_by = λ (tx : Tx). counted (freed offers asset) (cancelled_by tx tx.kind) in
    let made_of = λ (tx : Tx). counted (offered asset) (made_by tx tx.kind) in
    let debited = λ (tx : Tx). units_of (debit tx) asset in
    let credited = λ (tx : Tx). units_of (credit offers tx) asset in
    let same : sum_by (λ tx. debited tx + freed_by tx) txs ≡ sum_by (λ tx. credited tx + made_of tx) txs =
    sum_by-same (λ tx. debited tx + freed_by tx) (λ tx. credited tx + made_of tx) txs
    (λ tx. one_moves offers tx tx.kind asset) in
    omega (
      arith,
      same,
      sum_by-add debited freed_by txs,
      sum_by-add credited made_of txs,
      sum_by-filter_map (freed offers asset) (λ tx. cancelled_by tx tx.kind) txs,
      sum_by-filter_map (offered asset) (λ tx. made_by tx tx.kind) txs,
    )

pub body_conserves : BodyConserves
body_conserves version parts txs asset keeps body lt =
    let all : All (Passes parts) txs = λ k d below. passes parts (get_or txs k d) (body.passes k d below) in
    let accounts = accounts_sum version parts txs asset keeps body all lt in
    let moves = all_move parts.offers asset txs in
    let kept = kept_sum asset parts.offers txs keeps.by_key body.cancels_once in
    let offers = put_all (offered asset) (made txs) (kept_offers parts.offers txs) in
    omega (arith, accounts, moves, kept, offers)
