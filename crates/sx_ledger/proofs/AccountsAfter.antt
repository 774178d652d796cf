-- The accounts after the body of a block: their windows, their order, and whose sequence numbers are used.
use Rattle.std.proofs.Common.{◌≡◌, ◌≢◌, ℕ, zero, suc, ◌+◌, ◌<◌, ◌≤◌, true, false, ◌==◌, ◌&&◌, List}
use Rattle.std.proofs.Common.{[], ◌∷◌, length, get_or, map, replicate, All, Some, inl, inr, refl, sym, ap, ◌∙◌}
use Rattle.std.proofs.Common.{subst, arith}
use Rattle.std.specs.Prelude.{◌⊎◌, nat_eq, nat_lt, slice_get}
use Rattle.std.specs.List.{AllByRecursion, IsDistinct, cons_option}
use Rattle.std.specs.List.Sorted.{IsStrictlyIncreasing}
use Rattle.std.specs.Option.{option_map}
use Rattle.std.proofs.lemmas.Bool.{and_from, and_parts, cases_Bool, eq-eqb, eqb-false, eqb-true, leb-false}
use Rattle.std.proofs.lemmas.Bool.{lt-ltb, ltb-false, ne_eqb, or_cases, or_parts}
use Rattle.std.proofs.lemmas.List.Elements.{All-from_recursion, All-head, All-tail, recursion_from_All}
use Rattle.std.proofs.lemmas.Map.Keys.{IsDistinct-head, IsDistinct-tail}
use Rattle.std.proofs.lemmas.Option.{get_or_from_slice_get, slice_get-get_or, slice_get-map, slice_get_within}
use Rattle.sx_base.specs.Ranges.{most_seq}
use Rattle.sx_ledger.specs.declared.account.Account.{Account}
use Rattle.sx_ledger.specs.declared.offer.Offer.{Offer}
use Rattle.sx_ledger.specs.declared.parts.Parts.{Parts}
use Rattle.sx_ledger.specs.Body.{account_after, accounts_after, balances_after, created, created_by, new_account}
use Rattle.sx_ledger.specs.Body.{used_numbers, uses}
use Rattle.sx_ledger.specs.EffectLaws.{InWindow}
use Rattle.sx_ledger.specs.Ledger.{IsAccount, IsLedger, assets_of, has_owner, ids}
use Rattle.sx_ledger.specs.Static.{has_account, window_of}
use Rattle.sx_ledger.proofs.IdsInOrder.{increasing_from_order, order_from_increasing}
use Rattle.sx_ledger.proofs.Insertion.{Apart, AreApart, all_mapped, all_put_all, any_put_all, id_of, put_accounts_are}
use Rattle.sx_ledger.proofs.Insertion.{put_all_in_order, put_all}
use Rattle.sx_ledger.proofs.LastNumbers.{used_after}
use Rattle.sx_ledger.proofs.Lookup.{any_true, entry_at, window_is}
use Rattle.sx_ledger.proofs.PlacesOfIds.{stands}
use Rattle.sx_ledger.proofs.PostingTotals.{Passes, created_absent}
use Rattle.sx_ledger.proofs.UsedBits.{is_use, length_within, used_below-lt, used_bit}
use Rattle.sx_tx.specs.declared.kind.Kind.{Kind}
use Rattle.sx_tx.specs.declared.kind.Kind.TheVariants as kind
use Rattle.sx_tx.specs.declared.tx.Tx.{Tx}
use Rattle.sx_tx.specs.declared.window.Window.{Window}
use Rattle.sx_tx.specs.Transactions.{IsId, IsKind, IsTx}
use Rattle.sx_tx.specs.Window.{IsWindow, Next, bit_length, is_used, open_numbers}
use Rattle.sx_tx.proofs.UsedNumbers.{next_is_window, used_stays_used}

-- ---- the window of an account that was there

-- the number of a transaction is one that its account uses
pub uses_own : (txs : List Tx) (k : ℕ) (d : Tx) → k < length txs
    → uses txs (get_or txs k d).account.0 (get_or txs k d).seq ≡ true
uses_own txs k d lt =
    let tx = get_or txs k d in
    any_true (is_use tx.account.0 tx.seq) txs k tx (slice_get-get_or txs k d lt)
    (and_from _ _ (eq-eqb tx.account.0 tx.account.0 refl) (eq-eqb tx.seq tx.seq refl))

-- the numbers that transactions use are sequence numbers
uses_in_range : (txs : List Tx) (account seq : ℕ) → All IsTx txs → uses txs account seq ≡ true → seq ≤ most_seq
uses_in_range [] account seq all used = absurd cc
uses_in_range (tx ∷ txs) account seq all used =
    elim (or_cases (is_use account seq tx) (uses txs account seq) used) [
      | inl here ↦
          let both = and_parts (tx.account.0 == account) (tx.seq == seq) here in
          let is : tx.seq ≡ seq = eqb-true tx.seq seq both.1 in
          let top : tx.seq ≤ most_seq = (All-head IsTx tx txs all).seq.1 in
          omega arith
      | inr there ↦ uses_in_range txs account seq (All-tail IsTx tx txs all) there
    ]

window_kept : (version : ℕ) (txs : List Tx) (account : ℕ) (window : Window) → All IsTx txs → IsWindow version window
    → InWindow txs account window.last → IsWindow version (Next version window (used_numbers txs account window.last))
window_kept version txs account window all is inside =
    let map = used_numbers txs account window.last in
    next_is_window version window map is (used_below-lt txs account window.last open_numbers)
    (length_within map window.last most_seq open_numbers is.last
    (λ k lt set. let used : uses txs account (window.last + 1 + k) ≡ true =
    sym (used_bit txs account window.last k open_numbers lt) ∙ set in
    let range = uses_in_range txs account (window.last + 1 + k) all used in
    omega arith))

-- ---- the shape of an account

length-balances_after : (offers : List Offer) (txs : List Tx) (account asset : ℕ) (balances : List ℕ)
    → length (balances_after offers txs account asset balances) ≡ length balances
length-balances_after offers txs account asset [] = refl
length-balances_after offers txs account asset (balance ∷ balances) =
    ap suc (length-balances_after offers txs account (suc asset) balances)

length-zeros : (n : ℕ) → length (replicate {A = ℕ} n 0) ≡ n
length-zeros zero = refl
length-zeros (suc n) = ap suc (length-zeros n)

-- an account of a ledger of this version, but for the range of its balances
pub record HasShape (version assets : ℕ) (account : Account) : Type 0 where
  pub id : IsId account.id.0
  pub window : IsWindow version account.window
  pub balances : length account.balances ≡ assets

-- no number is used in the window of a new account
new_window : (version : ℕ) → IsWindow version (record { last = 0; used = 0 })
unfolding bit_length
new_window version =
    elim (cases_Bool (version == 1)) [
      | inl first ↦ record { last = omega arith; fits = omega arith; map = rw first refl }
      | inr later ↦ record { last = omega arith; fits = omega arith; map = rw later refl }
    ]

-- the ids that transactions create
created_ids : (txs : List Tx) → All IsTx txs → AllByRecursion IsId (created txs)
created_ids [] all = tt
created_ids (tx ∷ txs) all =
    one tx.kind (created txs) (All-head IsTx tx txs all).kind (created_ids txs (All-tail IsTx tx txs all))
  where
    one : (k : Kind) (rest : List ℕ) → IsKind k → AllByRecursion IsId rest
        → AllByRecursion IsId (cons_option (created_by k) rest)
    one (kind.Pay asset to amount) rest is all = all
    one (kind.Create id) rest is all = (is, all)
    one (kind.Offer sell buy limit amount) rest is all = all
    one (kind.Cancel sell buy limit seq) rest is all = all

-- ids that differ are apart
ids_apart : (new id : ℕ) → nat_eq new id ≡ false → nat_lt new id ≡ false → nat_lt id new ≡ true
ids_apart new id differ not_before =
    let le : id ≤ new = ltb-false new id not_before in
    let ne : new ≢ id = eqb-false new id differ in
    lt-ltb id new (omega arith)

module _ (parts : Parts) (txs : List Tx) (keeps : IsLedger parts) (in_range : All IsTx txs)
    (passing : All (Passes parts) txs) where
  abbrev after : Account → Account
  after = account_after parts txs

  abbrev new : ℕ → Account
  new = new_account parts txs

  in_window : (account : Account) → window_of parts.accounts account.id.0 ≡ account.window
      → InWindow txs account.id.0 account.window.last
  in_window account window k d lt own =
      let passes = passing k d lt in
      let here : window_of parts.accounts (get_or txs k d).account.0 ≡ account.window =
      ap (window_of parts.accounts) own ∙ window in
      let last : (window_of parts.accounts (get_or txs k d).account.0).last ≡ account.window.last =
      ap (λ (w : Window). w.last) here in
      let above = leb-false (get_or txs k d).seq (window_of parts.accounts (get_or txs k d).account.0).last
      passes.above in
      let within = ltb-false ((window_of parts.accounts (get_or txs k d).account.0).last + open_numbers)
      (get_or txs k d).seq passes.within in
      (omega arith, omega arith)

  -- ---- the shape of the accounts

  kept_shape : (account : Account) → IsAccount parts.version (assets_of parts) account
      → window_of parts.accounts account.id.0 ≡ account.window
      → HasShape parts.version (assets_of parts) (after account)
  kept_shape account is window = record {
    id = is.id;
    window = window_kept parts.version txs account.id.0 account.window in_range is.window (in_window account window);
    balances = length-balances_after parts.offers txs account.id.0 0 account.balances ∙ is.balances;
  }

  window_at : (k : ℕ) (d : Account) → k < length parts.accounts
      → window_of parts.accounts (get_or parts.accounts k d).id.0 ≡ (get_or parts.accounts k d).window
  window_at k d lt = window_is parts.accounts k (get_or parts.accounts k d)
      (slice_get-get_or parts.accounts k d lt) keeps.by_id

  kept_shapes : AllByRecursion (HasShape parts.version (assets_of parts)) (map after parts.accounts)
  kept_shapes =
      all_mapped (HasShape parts.version (assets_of parts)) after parts.accounts
      (recursion_from_All (λ account. HasShape parts.version (assets_of parts) (after account)) parts.accounts
      (λ k d lt. kept_shape (get_or parts.accounts k d) (keeps.accounts k d lt) (window_at k d lt)))

  new_shapes : (new_ids : List ℕ) → AllByRecursion IsId new_ids
      → AllByRecursion (HasShape parts.version (assets_of parts)) (map new new_ids)
  new_shapes [] all = tt
  new_shapes (id ∷ new_ids) all =
      let shape : HasShape parts.version (assets_of parts) (new id) = record {
        id = all.0;
        window = new_window parts.version;
        balances = length-balances_after parts.offers txs id 0 (replicate (assets_of parts) 0)
            ∙ length-zeros (assets_of parts);
      } in
      (shape, new_shapes new_ids all.1)

  accounts_put : accounts_after parts txs ≡ put_all id_of nat_lt (map new (created txs)) (map after parts.accounts)
  accounts_put = put_accounts_are (map new (created txs)) (map after parts.accounts)

  pub shapes : All (HasShape parts.version (assets_of parts)) (accounts_after parts txs)
  shapes =
      All-from_recursion (HasShape parts.version (assets_of parts)) (accounts_after parts txs)
      (subst (AllByRecursion (HasShape parts.version (assets_of parts))) (sym accounts_put)
      (all_put_all id_of nat_lt (HasShape parts.version (assets_of parts)) (map new (created txs))
      (map after parts.accounts)
      (new_shapes (created txs) (created_ids txs in_range)) kept_shapes))

  -- ---- by id

  ids_kept : (accounts : List Account) → ids (map after accounts) ≡ ids accounts
  ids_kept [] = refl
  ids_kept (account ∷ accounts) = ap (λ (xs : List ℕ). account.id.0 ∷ xs) (ids_kept accounts)

  new_apart : (id : ℕ) (others : List ℕ) → AllByRecursion (λ other. nat_eq id other ≡ false) others
      → AllByRecursion (Apart id_of nat_lt (new id)) (map new others)
  new_apart id [] differ = tt
  new_apart id (other ∷ others) differ = (ids_apart id other differ.0, new_apart id others differ.1)

  kept_apart : (id : ℕ) (accounts : List Account) → has_account accounts id ≡ false
      → AllByRecursion (Apart id_of nat_lt (new id)) (map after accounts)
  kept_apart id [] absent = tt
  kept_apart id (account ∷ accounts) absent =
      let both = or_parts (account.id.0 == id) (has_account accounts id) absent in (
        ids_apart id account.id.0 (ne_eqb id account.id.0 (λ e. eqb-false account.id.0 id both.0 (sym e))),
        kept_apart id accounts both.1,
      )

  apart : (new_ids : List ℕ) → IsDistinct nat_eq new_ids
      → AllByRecursion (λ id. has_account parts.accounts id ≡ false) new_ids
      → AreApart id_of nat_lt (map new new_ids) (map after parts.accounts)
  apart [] distinct absent = tt
  apart (id ∷ new_ids) distinct absent = (
    new_apart id new_ids (IsDistinct-head nat_eq id new_ids distinct),
    kept_apart id parts.accounts absent.0,
    apart new_ids (IsDistinct-tail nat_eq id new_ids distinct) absent.1,
  )

  pub by_id_after : IsDistinct nat_eq (created txs) → IsStrictlyIncreasing (ids (accounts_after parts txs))
  by_id_after distinct =
      let ordered = order_from_increasing (ids (map after parts.accounts))
      (subst IsStrictlyIncreasing (sym (ids_kept parts.accounts)) keeps.by_id) in
      let whole = put_all_in_order id_of nat_lt (map new (created txs)) (map after parts.accounts)
      (apart (created txs) distinct (created_absent parts txs passing)) ordered in
      rw accounts_put (increasing_from_order _ _ whole)

  -- ---- owners

  -- an account that was there has used the numbers that it used before, and those of its transactions
  pub owner_after : (offer : Offer) → has_account parts.accounts offer.account.0 ≡ true
      → (is_used (window_of parts.accounts offer.account.0) offer.seq ≡ true)
      ⊎ (uses txs offer.account.0 offer.seq ≡ true)
      → has_owner (accounts_after parts txs) offer ≡ true
  owner_after offer there reached =
      let test = λ (account : Account). (account.id.0 == offer.account.0) && is_used account.window offer.seq in
      let at = stands parts.accounts offer.account.0 there in
      let found = entry_at id_of parts.accounts at.place offer.account.0 at.there in
      let entry = found.0 in
      let window : window_of parts.accounts entry.id.0 ≡ entry.window =
      window_is parts.accounts at.place entry found.1 keeps.by_id in
      let is : IsAccount parts.version (assets_of parts) entry = account_at at.place entry found.1 in
      let used : is_used (after entry).window offer.seq ≡ true =
      elim reached [
        | inl before ↦
            let old : is_used entry.window offer.seq ≡ true = rw (found.2, window) at before in
            used_stays_used parts.version entry.window (used_numbers txs entry.id.0 entry.window.last) offer.seq
            is.window (used_below-lt txs entry.id.0 entry.window.last open_numbers) old
        | inr now ↦ used_after parts.version keeps.some_version keeps.few_versions txs entry.id.0 entry.window offer.seq
            is.window (in_window entry window) (rw found.2 at now)
      ] in
      let passes : test (after entry) ≡ true =
      and_from _ _ (eq-eqb entry.id.0 offer.account.0 (sym found.2)) used in
      let place_after : slice_get (map after parts.accounts) at.place ≡ Some (after entry) =
      slice_get-map after parts.accounts at.place ∙ ap (option_map after) found.1 in
      rw accounts_put
      (any_put_all id_of nat_lt test (map new (created txs)) (map after parts.accounts)
      (any_true test (map after parts.accounts) at.place (after entry) place_after passes))
    where
      account_at : (place : ℕ) (entry : Account) → slice_get parts.accounts place ≡ Some entry
          → IsAccount parts.version (assets_of parts) entry
      account_at place entry there =
          let is : get_or parts.accounts place entry ≡ entry =
          get_or_from_slice_get parts.accounts place entry entry there in
          subst (IsAccount parts.version (assets_of parts)) is
          (keeps.accounts place entry (slice_get_within parts.accounts place entry there))
