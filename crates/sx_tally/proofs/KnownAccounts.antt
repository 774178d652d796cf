-- The accounts that the tally leaves are those after the body.
use Rattle.std.proofs.Common.{◌≡◌, ℕ, zero, suc, ◌+◌, ◌-◌, ◌^◌, ◌<◌, ◌≤◌, false, List, [], ◌∷◌, ◌++◌, length}
use Rattle.std.proofs.Common.{get_or, map, replicate, All, Some, refl, sym, ap, ap₂, subst, ◌∙◌, arith}
use Rattle.std.specs.Int.{IsBitSet}
use Rattle.std.specs.Prelude.{nat_eq, nat_lt, slice_get}
use Rattle.std.specs.Option.{option_map}
use Rattle.std.specs.List.{AllByRecursion}
use Rattle.std.specs.List.Sorted.{IsNonDecreasingBy, IsPermutation}
use Rattle.std.proofs.lemmas.Bool.{eq-eqb, eqb-true, le-ltb, lt-ltb, ltb-true}
use Rattle.std.proofs.lemmas.List.{get_or-map, get_or_default, length-map, same_lists}
use Rattle.std.proofs.lemmas.List.Elements.{All-tail}
use Rattle.std.proofs.lemmas.List.Sorted.{All-permutation, IsPermutation-append_comm, IsPermutation-sym}
use Rattle.std.proofs.lemmas.List.Sorted.{IsPermutation-trans}
use Rattle.std.proofs.lemmas.Option.{get_or_from_slice_get, slice_get-map, slice_get_within}
use Rattle.sx_base.specs.declared.account_id.AccountId.{AccountId}
use Rattle.sx_base.specs.Ranges.{most_seq}
use Rattle.sx_tally.specs.declared.tally.Tally.{Tally}
use Rattle.sx_tally.specs.Accounts.{fresh}
use Rattle.sx_tally.specs.Postings.{HasRows, credit_at, debit_at}
use Rattle.sx_tally.specs.Tally.{IsTally}
use Rattle.sx_tally.proofs.SameOrder.{one_list, put_all_moves}
use Rattle.sx_tally.proofs.UsedNumbers.{numbers_in_range}
use Rattle.sx_ledger.specs.declared.account.Account.{Account}
use Rattle.sx_ledger.specs.declared.offer.Offer.{Offer}
use Rattle.sx_ledger.specs.declared.parts.Parts.{Parts}
use Rattle.sx_ledger.specs.Body.{IsAdmissibleIn, account_after, accounts_after, balances_after, body_after, created}
use Rattle.sx_ledger.specs.Body.{holding_of, new_account, put_accounts}
use Rattle.sx_ledger.specs.Effects.{credits, debits}
use Rattle.sx_ledger.specs.Ledger.{IsAccount, IsLedger, assets_of, balance_at, ids}
use Rattle.sx_ledger.specs.Static.{has_account}
use Rattle.sx_ledger.proofs.IdsInOrder.{order_from_increasing}
use Rattle.sx_ledger.proofs.BodyKeepsLedger.{body_keeps_ledger}
use Rattle.sx_ledger.proofs.Insertion.{id_of, put_accounts_are}
use Rattle.sx_ledger.proofs.PlacesOfIds.{holding_at}
use Rattle.sx_ledger.proofs.PostingTotals.{Passes, created_absent, credits_elsewhere, credits_there, passes}
use Rattle.sx_tx.specs.declared.tx.Tx.{Tx}
use Rattle.sx_tx.specs.declared.window.Window.{Window}
use Rattle.sx_tx.specs.Transactions.{IsTx}
use Rattle.sx_tx.specs.Window.{Next, open_numbers}

-- ---- balances

length-balances_after : (offers : List Offer) (txs : List Tx) (account asset : ℕ) (balances : List ℕ)
    → length (balances_after offers txs account asset balances) ≡ length balances
length-balances_after offers txs account asset [] = refl
length-balances_after offers txs account asset (balance ∷ balances) =
    ap suc (length-balances_after offers txs account (suc asset) balances)

balances_after-at : (offers : List Offer) (txs : List Tx) (account start : ℕ) (balances : List ℕ) (asset : ℕ)
    → asset < length balances
    → get_or (balances_after offers txs account start balances) asset 0
    ≡ (get_or balances asset 0 + credits offers txs account (start + asset)) - debits txs account (start + asset)
balances_after-at offers txs account start [] asset lt = absurd (omega arith)
balances_after-at offers txs account start (balance ∷ balances) zero lt = let same : start + zero ≡ start =
    omega arith in rw same refl
balances_after-at offers txs account start (balance ∷ balances) (suc asset) lt =
    let same : suc start + asset ≡ start + suc asset = omega arith in
    rw same at (balances_after-at offers txs account (suc start) balances asset (omega arith))

balance_after : (parts : Parts) (txs : List Tx) (account : Account) (asset : ℕ) → asset < length account.balances
    → balance_at asset (account_after parts txs account)
    ≡ (balance_at asset account + credits parts.offers txs account.id.0 asset) - debits txs account.id.0 asset
balance_after parts txs account asset lt =
    let same : 0 + asset ≡ asset = omega arith in
    rw same at (balances_after-at parts.offers txs account.id.0 0 account.balances asset lt)

-- nothing is held where nothing was and nothing is credited
zeros_after : (offers : List Offer) (txs : List Tx) (id start n : ℕ) → ((asset : ℕ) → credits offers txs id asset ≡ 0)
    → balances_after offers txs id start (replicate n 0) ≡ replicate n 0
zeros_after offers txs id start zero none = refl
zeros_after offers txs id start (suc n) none =
    ap₂ (λ (b : ℕ) (bs : List ℕ). b ∷ bs)
    (let here : (0 + credits offers txs id start) - debits txs id start ≡ 0 = omega (arith, none start) in here)
    (zeros_after offers txs id (suc start) n none)

same_account : (a b : Account) → a.id ≡ b.id → a.window ≡ b.window → a.balances ≡ b.balances → a ≡ b
same_account a b id window balances =
    let made : AccountId → Window → List ℕ → Account = λ i w bs. record { id = i; window = w; balances = bs } in
    ap (λ (i : AccountId). made i a.window a.balances) id ∙ ap₂ (made b.id) window balances

pub All-behind : {X : Type 0} (P : X → Type 0) (xs ys : List X) → All P (xs ++ ys) → All P ys
All-behind P [] ys all = all
All-behind P (x ∷ xs) ys all = All-behind P xs ys (All-tail P x (xs ++ ys) all)

module _ (parts : Parts) (txs : List Tx) (keeps : IsLedger parts) (in_range : All IsTx txs)
    (body : IsAdmissibleIn 2 parts txs) where
  passing : All (Passes parts) txs
  passing = λ k d below. passes parts (get_or txs k d) (body.passes k d below)

  after_keeps : IsLedger (body_after parts txs)
  after_keeps = body_keeps_ledger 2 parts txs keeps in_range body

  abbrev news : List Account
  news = map (new_account parts txs) (created txs)

  abbrev olds : List Account
  olds = map (account_after parts txs) parts.accounts

  moves : IsPermutation (news ++ olds) (accounts_after parts txs)
  moves = subst (IsPermutation (news ++ olds)) (sym (put_accounts_are news olds)) (put_all_moves id_of nat_lt news olds)

  -- ---- an account that was there

  module _ (tally : Tally) (is : IsTally parts txs tally) (k : ℕ) (account : Account)
      (there : slice_get parts.accounts k ≡ Some account) where
    lt : k < length parts.accounts
    lt = slice_get_within parts.accounts k account there

    in_list : get_or parts.accounts k account ≡ account
    in_list = get_or_from_slice_get parts.accounts k account account there

    is_account : IsAccount parts.version (assets_of parts) account
    is_account = subst (IsAccount parts.version (assets_of parts)) in_list (keeps.accounts k account lt)

    still_account : IsAccount parts.version (assets_of parts) (account_after parts txs account)
    still_account =
        let P = IsAccount parts.version (assets_of parts) in
        let all : All P olds = All-behind P news olds
        (All-permutation P (accounts_after parts txs) (news ++ olds)
        (IsPermutation-sym (news ++ olds) (accounts_after parts txs) moves) after_keeps.accounts) in
        let found : get_or olds k account ≡ account_after parts txs account =
        get_or-map (account_after parts txs) parts.accounts k account account lt
        ∙ ap (account_after parts txs) in_list in
        subst P found (all k account (omega (arith, lt, length-map parts.accounts (account_after parts txs))))

    id_there : slice_get (ids parts.accounts) k ≡ Some account.id.0
    id_there = slice_get-map id_of parts.accounts k ∙ ap (option_map id_of) there

    taken : (asset : ℕ) → asset < length account.balances
        → debit_at tally.postings k asset ≡ debits txs account.id.0 asset
    taken asset below = is.postings.debits k account.id.0 asset id_there (omega (arith, is_account.balances))

    given : (asset : ℕ) → asset < length account.balances
        → credit_at tally.postings k asset ≡ credits parts.offers txs account.id.0 asset
    given asset below = is.postings.credits k account.id.0 asset id_there (omega (arith, is_account.balances))

    pub rows_fit : HasRows tally.postings (length tally.used.items) (length account.balances)
    rows_fit =
        subst (λ (n : ℕ). HasRows tally.postings n (length account.balances)) (sym is.shape.maps)
        (subst (λ (w : ℕ). HasRows tally.postings (length parts.accounts) w) (sym is_account.balances) is.shape.rows)

    pub last_fits : account.window.last ≤ most_seq
    last_fits = is_account.window.last

    pub numbers_fit : (i : ℕ) → i < open_numbers → IsBitSet (get_or tally.used.items k 0) i
        → account.window.last + 1 + i ≤ most_seq
    numbers_fit i below set =
        let map = is.used k account there in
        omega (
          arith,
          numbers_in_range txs account.id.0 account.window.last i in_range below
              (subst (λ (m : ℕ). IsBitSet m i) map set),
        )

    pub all_covered : (asset : ℕ) → asset < length account.balances
        → debit_at tally.postings k asset ≤ balance_at asset account + credit_at tally.postings k asset
    all_covered asset below =
        let held : holding_of parts.accounts account.id.0 asset ≡ balance_at asset account =
        subst (λ (a : Account). holding_of parts.accounts a.id.0 asset ≡ balance_at asset a) in_list
        (holding_at parts.accounts keeps.by_id asset k account lt) in
        let covers : debits txs account.id.0 asset
        ≤ holding_of parts.accounts account.id.0 asset + credits parts.offers txs account.id.0 asset =
        body.covered account.id.0 asset in
        omega (arith, taken asset below, given asset below)

    pub all_fit : (asset : ℕ) → asset < length account.balances
        → (balance_at asset account + credit_at tally.postings k asset) - debit_at tally.postings k asset < 2 ^ 64
    all_fit asset below =
        let wide = length-balances_after parts.offers txs account.id.0 0 account.balances in
        omega (
          arith,
          taken asset below,
          given asset below,
          balance_after parts txs account asset below,
          still_account.in_range asset 0 (omega (arith, wide)),
        )

    pub account_is : (after : Account) → after.id ≡ account.id
        → after.window ≡ Next parts.version account.window (get_or tally.used.items k 0)
        → length after.balances ≡ length account.balances
        → ((asset : ℕ) → asset < length account.balances → balance_at asset after
        ≡ (balance_at asset account + credit_at tally.postings k asset) - debit_at tally.postings k asset)
        → after ≡ account_after parts txs account
    account_is after id window as_many each =
        let wide = length-balances_after parts.offers txs account.id.0 0 account.balances in
        let balances = balances_after parts.offers txs account.id.0 0 account.balances in
        same_account after (account_after parts txs account) id
        (window ∙ ap (Next parts.version account.window) (is.used k account there))
        (same_lists after.balances balances (as_many ∙ sym wide) (λ j d below.
        let within : j < length account.balances = omega arith in
        let same : get_or after.balances j 0 ≡ get_or balances j 0 =
        omega (
          arith,
          each j within,
          balance_after parts txs account j within,
          taken j within,
          given j within,
        ) in
        get_or_default after.balances j d 0 below ∙ same ∙ get_or_default balances j 0 d (omega (arith, wide))))

  -- ---- accounts that are created

  fresh_is : (id : ℕ) → has_account parts.accounts id ≡ false → fresh (assets_of parts) id ≡ new_account parts txs id
  fresh_is id absent =
      ap (λ (balances : List ℕ). record {
        id = record { 0 = id };
        window = record { last = 0; used = 0 };
        balances =
            balances;
      })
      (sym (zeros_after parts.offers txs id 0 (assets_of parts)
      (λ asset. credits_elsewhere parts.accounts parts.offers id asset txs absent (credits_there parts txs passing))))

  fresh_are : (new : List ℕ) → AllByRecursion (λ id. has_account parts.accounts id ≡ false) new
      → map (fresh (assets_of parts)) new ≡ map (new_account parts txs) new
  fresh_are [] absent = refl
  fresh_are (id ∷ new) absent =
      ap₂ (λ (a : Account) (rest : List Account). a ∷ rest) (fresh_is id absent.0) (fresh_are new absent.1)

  pub accounts_are : (after : List Account)
      → IsPermutation (olds ++ map (fresh (assets_of parts)) (created txs)) after
      → IsNonDecreasingBy (λ account. account.id.0) after → after ≡ accounts_after parts txs
  accounts_are after permuted rises =
      let same = fresh_are (created txs) (created_absent parts txs passing) in
      let from : IsPermutation (olds ++ news) after =
      subst (λ (xs : List Account). IsPermutation (olds ++ xs) after) same permuted in
      sym (one_list id_of nat_lt nat_eq eqb-true (λ a. eq-eqb a a refl)
      (λ a b c x y. lt-ltb a c (omega (arith, ltb-true a b x, ltb-true b c y)))
      (λ a e. absurd (omega (arith, ltb-true a a e)))
      (accounts_after parts txs) after
      (order_from_increasing (ids (accounts_after parts txs)) after_keeps.by_id)
      (λ i j d le below. le-ltb _ _ (rises i j d le below))
      (IsPermutation-trans (accounts_after parts txs) (news ++ olds) after
      (IsPermutation-sym (news ++ olds) (accounts_after parts txs) moves)
      (IsPermutation-trans (news ++ olds) (olds ++ news) after (IsPermutation-append_comm news olds) from)))

-- where none is created, the accounts that are there are all
none_put : (parts : Parts) (txs : List Tx) (new : List ℕ) (olds : List Account) → length new ≡ 0
    → olds ≡ put_accounts (map (new_account parts txs) new) olds
none_put parts txs [] olds none = refl
none_put parts txs (id ∷ new) olds some = absurd (omega arith)

pub none_created : (parts : Parts) (txs : List Tx) → length (created txs) ≡ 0
    → map (account_after parts txs) parts.accounts ≡ accounts_after parts txs
none_created parts txs none = none_put parts txs (created txs) (map (account_after parts txs) parts.accounts) none
