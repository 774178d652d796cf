-- What an account of a ledger has after a block.
use Rattle.std.proofs.Common.{◌≡◌, ℕ, zero, suc, ◌+◌, ◌-◌, ◌<◌, ◌≤◌, Bool, true, false, List, [], ◌∷◌, length, get_or}
use Rattle.std.proofs.Common.{map}
use Rattle.std.proofs.Common.{Option, Some, None, Contains, inl, inr, refl, sym, ap, subst, ◌∙◌, arith, replicate}
use Rattle.std.specs.Prelude.{nat_lt, not, slice_index}
use Rattle.std.specs.List.{filter, list_any}
use Rattle.std.specs.List.Sorted.{IsStrictlyIncreasing}
use Rattle.std.proofs.lemmas.Bool.{and_from, cases_Bool}
use Rattle.std.proofs.lemmas.List.{get_or-map, get_or-replicate, length-map, length-replicate}
use Rattle.sx_bytes.specs.Grammar.{in_order, may_follow}
use Rattle.sx_bytes.proofs.Ordered.{and_parts}
use Rattle.sx_block.specs.declared.header.Block.{Block}
use Rattle.sx_block.specs.Effects.{gives_in}
use Rattle.sx_block.specs.Validity.{flow_of_block, ledger_after, offers_of}
use Rattle.sx_customer.specs.Fairness.{IsOpened, IsPaid, is_cancelled, left_of}
use Rattle.sx_ledger.specs.declared.account.Account.{Account}
use Rattle.sx_ledger.specs.declared.offer.Offer.{Offer}
use Rattle.sx_ledger.specs.declared.parts.Parts.{Parts}
use Rattle.sx_ledger.specs.Body.{account_after, accounts_after, balances_after, created, holding_of}
use Rattle.sx_ledger.specs.Body.{cancelled, kept_offers, made, new_account, put_account, put_accounts}
use Rattle.sx_ledger.specs.Effects.{credits, debits}
use Rattle.sx_ledger.specs.Ledger.{IsLedger, assets_of, balance_at, ids}
use Rattle.sx_ledger.specs.Order.{key_before, key_of, same_key}
use Rattle.sx_ledger.specs.Trade.{account_traded, balances_traded, offer_traded, proceeds}
use Rattle.sx_ledger.proofs.IdsInOrder.{increasing_from_order, order_from_increasing}
use Rattle.sx_ledger.proofs.Insertion.{id_of, length-put_all, put, put_accounts_are, put_all, put_offers_are}
use Rattle.sx_ledger.proofs.PlacesOfIds.{holding_at}
use Rattle.sx_tx.specs.declared.tx.Tx.{Tx}

-- ---- lists that have an element

mapped : {X Y : Type 0} (f : X → Y) (xs : List X) (x : X) → Contains xs x → Contains (map f xs) (f x)
mapped f xs x (k, lt, is) =
    (k, (let same = length-map xs f in omega arith), get_or-map f xs k x (f x) lt ∙ ap f is)

module _ {X K : Type 0} (mark : X → K) (before : K → K → Bool) where
  keeps : (new : X) (xs : List X) (x : X) → Contains xs x → Contains (put mark before new xs) x
  keeps new [] x (k, lt, is) = absurd (omega arith)
  keeps new (y ∷ xs) x (zero, lt, is) =
      elim (cases_Bool (before (mark new) (mark y))) [
        | inl first ↦ rw first (1, omega arith, is)
        | inr later ↦ rw later (0, omega arith, is)
      ]
  keeps new (y ∷ xs) x (suc k, lt, is) =
      elim (cases_Bool (before (mark new) (mark y))) [
        | inl first ↦ rw first (suc (suc k), omega arith, is)
        | inr later ↦ rw later
            (let rest = keeps new xs x (k, omega arith, is) in
            let within = rest.1 in
            (suc rest.0, omega arith, rest.2))
      ]

  keeps_all : (new xs : List X) (x : X) → Contains xs x → Contains (put_all mark before new xs) x
  keeps_all [] xs x has = has
  keeps_all (one ∷ new) xs x has = keeps one (put_all mark before new xs) x (keeps_all new xs x has)

  put_there : (new : X) (xs : List X) → Contains (put mark before new xs) new
  put_there new [] = (0, omega arith, refl)
  put_there new (y ∷ xs) =
      elim (cases_Bool (before (mark new) (mark y))) [
        | inl first ↦ rw first (0, omega arith, refl)
        | inr later ↦ rw later
            (let rest = put_there new xs in
            let within = rest.1 in
            (suc rest.0, omega arith, rest.2))
      ]

  all_there : (new xs : List X) (x : X) → Contains new x → Contains (put_all mark before new xs) x
  all_there [] xs x (k, lt, is) = absurd (omega arith)
  all_there (one ∷ new) xs x (zero, lt, is) =
      subst (λ (y : X). Contains (put_all mark before (one ∷ new) xs) y) is
      (put_there one (put_all mark before new xs))
  all_there (one ∷ new) xs x (suc k, lt, is) =
      keeps one (put_all mark before new xs) x (all_there new xs x (k, omega arith, is))

passed : {X : Type 0} (test : X → Bool) (xs : List X) (x : X) → Contains xs x → test x ≡ true
    → Contains (filter test xs) x
passed test [] x (k, lt, is) passes = absurd (omega arith)
passed {X} test (y ∷ xs) x (zero, lt, is) passes =
    let here : test y ≡ true = subst (λ (z : X). test z ≡ true) (sym is) passes in
    rw here (0, omega arith, is)
passed test (y ∷ xs) x (suc k, lt, is) passes =
    let rest = passed test xs x (k, omega arith, is) passes in
    let within = rest.1 in
    elim (cases_Bool (test y)) [
      | inl kept ↦ rw kept (suc rest.0, omega arith, rest.2)
      | inr dropped ↦ rw dropped rest
    ]

-- ---- ids in order

-- numbers that rise after one rise after a lower one
rise_after : (before : Option ℕ) (x : ℕ) (xs : List ℕ) → may_follow nat_lt before x ≡ true
    → in_order nat_lt (Some x) xs ≡ true → in_order nat_lt before xs ≡ true
rise_after before x [] follows rise = refl
rise_after None x (y ∷ xs) follows rise = (and_parts (nat_lt x y) (in_order nat_lt (Some y) xs) rise).1
rise_after (Some b) x (y ∷ xs) follows rise =
    let both = and_parts (nat_lt x y) (in_order nat_lt (Some y) xs) rise in
    and_from _ _ (let last : nat_lt b y ≡ true = grind arith in last) both.1

-- ids rise that rose with one more among them
rise_without : (before : Option ℕ) (new : Account) (accounts : List Account)
    → in_order nat_lt before (ids (put_account new accounts)) ≡ true → in_order nat_lt before (ids accounts) ≡ true
rise_without before new [] rise = refl
rise_without before new (account ∷ accounts) rise =
    elim (cases_Bool (nat_lt new.id.0 account.id.0)) [
      | inl first ↦
          let here : in_order nat_lt before (ids (new ∷ account ∷ accounts)) ≡ true = rw first at rise in
          let both = and_parts (may_follow nat_lt before new.id.0)
          (in_order nat_lt (Some new.id.0) (ids (account ∷ accounts))) here in
          rise_after before new.id.0 (ids (account ∷ accounts)) both.0 both.1
      | inr later ↦
          let here : in_order nat_lt before (ids (account ∷ put_account new accounts)) ≡ true = rw later at rise in
          let both = and_parts (may_follow nat_lt before account.id.0)
          (in_order nat_lt (Some account.id.0) (ids (put_account new accounts))) here in
          and_from _ _ both.0 (rise_without (Some account.id.0) new accounts both.1)
    ]

rise_without_all : (new accounts : List Account) → in_order nat_lt None (ids (put_accounts new accounts)) ≡ true
    → in_order nat_lt None (ids accounts) ≡ true
rise_without_all [] accounts rise = rise
rise_without_all (one ∷ new) accounts rise =
    rise_without_all new accounts (rise_without None one (put_accounts new accounts) rise)

ids-map : (f : Account → Account) → ((account : Account) → (f account).id ≡ account.id) → (accounts : List Account)
    → ids (map f accounts) ≡ ids accounts
ids-map f same [] = refl
ids-map f same (account ∷ accounts) =
    rw (same account) (ap (λ (rest : List ℕ). account.id.0 ∷ rest) (ids-map f same accounts))

module _ (parts : Parts) (said : Block) (is : IsLedger (ledger_after parts said)) where
  -- the ids of the ledger before a block rise, since those after it do
  rose : IsStrictlyIncreasing (ids parts.accounts)
  rose =
      let prices = said.header.prices in
      let offers = offers_of parts said in
      let after = accounts_after parts said.txs in
      let traded : ids (map (account_traded prices (flow_of_block said) offers) after) ≡ ids after =
      ids-map (account_traded prices (flow_of_block said) offers) (λ account. refl) after in
      let all : IsStrictlyIncreasing (ids after) =
      subst (λ (xs : List ℕ). IsStrictlyIncreasing xs) traded is.by_id in
      let old : in_order nat_lt None (ids (map (account_after parts said.txs) parts.accounts)) ≡ true =
      rise_without_all (map (new_account parts said.txs) (created said.txs))
      (map (account_after parts said.txs) parts.accounts)
      (order_from_increasing (ids after) all) in
      increasing_from_order None (ids parts.accounts)
      (subst (λ (xs : List ℕ). in_order nat_lt None xs ≡ true)
      (ids-map (account_after parts said.txs) (λ account. refl) parts.accounts) old)

  -- so an account holds what its id holds
  held : (account : Account) → Contains parts.accounts account → (asset : ℕ)
      → holding_of parts.accounts account.id.0 asset ≡ slice_index account.balances asset
  held account (k, lt, same) asset =
      subst (λ (a : Account). holding_of parts.accounts a.id.0 asset ≡ balance_at asset a) same
      (holding_at parts.accounts rose asset k account lt)

-- ---- balances

length-after : (offers : List Offer) (txs : List Tx) (account asset : ℕ) (balances : List ℕ)
    → length (balances_after offers txs account asset balances) ≡ length balances
length-after offers txs account asset [] = refl
length-after offers txs account asset (balance ∷ balances) =
    ap suc (length-after offers txs account (suc asset) balances)

after-at : (offers : List Offer) (txs : List Tx) (account start : ℕ) (balances : List ℕ) (asset : ℕ)
    → asset < length balances
    → get_or (balances_after offers txs account start balances) asset 0
    ≡ (get_or balances asset 0 + credits offers txs account (start + asset)) - debits txs account (start + asset)
after-at offers txs account start [] asset lt = absurd (omega arith)
after-at offers txs account start (balance ∷ balances) zero lt =
    let same : start + zero ≡ start = omega arith in rw same refl
after-at offers txs account start (balance ∷ balances) (suc asset) lt =
    let same : suc start + asset ≡ start + suc asset = omega arith in
    rw same at (after-at offers txs account (suc start) balances asset (omega arith))

traded-at : (prices : List ℕ) (flow : ℕ → ℕ → ℕ) (offers : List Offer) (account start : ℕ) (balances : List ℕ)
    (asset : ℕ) → asset < length balances
    → get_or (balances_traded prices flow offers account start balances) asset 0
    ≡ get_or balances asset 0 + proceeds prices flow offers account (start + asset)
traded-at prices flow offers account start [] asset lt = absurd (omega arith)
traded-at prices flow offers account start (balance ∷ balances) zero lt =
    let same : start + zero ≡ start = omega arith in rw same refl
traded-at prices flow offers account start (balance ∷ balances) (suc asset) lt =
    let same : suc start + asset ≡ start + suc asset = omega arith in
    rw same at (traded-at prices flow offers account (suc start) balances asset (omega arith))

-- ---- the whole

-- what is there by the order of ids is there
accounts_there : (parts : Parts) (txs : List Tx) (account : Account)
    → Contains (put_all id_of nat_lt (map (new_account parts txs) (created txs))
    (map (account_after parts txs) parts.accounts)) account
    → Contains (accounts_after parts txs) account
accounts_there parts txs account there =
    subst (λ (xs : List Account). Contains xs account)
    (sym (put_accounts_are (map (new_account parts txs) (created txs))
    (map (account_after parts txs) parts.accounts))) there

module _ (parts : Parts) (said : Block) (is : IsLedger (ledger_after parts said)) where
  pub paid : ((account asset : ℕ) → debits said.txs account asset
      ≤ holding_of parts.accounts account asset + credits parts.offers said.txs account asset)
      → (account : Account) → Contains parts.accounts account → IsPaid parts said account
  paid covered account has =
      let txs = said.txs in
      let prices = said.header.prices in
      let flow = flow_of_block said in
      let offers = offers_of parts said in
      let id = account.id.0 in
      let between : Account = account_after parts txs account in
      record {
        after = account_traded prices flow offers between;
        there = mapped (account_traded prices flow offers) (accounts_after parts txs) between
            (accounts_there parts txs between (keeps_all id_of nat_lt (map (new_account parts txs) (created txs))
            (map (account_after parts txs) parts.accounts) between
            (mapped (account_after parts txs) parts.accounts account has)));
        same = refl;
        balance = λ asset lt.
            let zero_first : 0 + asset ≡ asset = omega arith in
            let body : get_or (balances_after parts.offers txs id 0 account.balances) asset 0
            ≡ (get_or account.balances asset 0 + credits parts.offers txs id asset) - debits txs id asset =
            rw zero_first at (after-at parts.offers txs id 0 account.balances asset lt) in
            let range = length-after parts.offers txs id 0 account.balances in
            let trade : get_or (balances_traded prices flow offers id 0
            (balances_after parts.offers txs id 0 account.balances)) asset 0
            ≡ get_or (balances_after parts.offers txs id 0 account.balances) asset 0
            + proceeds prices flow offers id asset =
            rw zero_first at
            (traded-at prices flow offers id 0 (balances_after parts.offers txs id 0 account.balances) asset
            (omega arith)) in
            let holds = held parts said is account has asset in
            let there = covered id asset in
            omega arith;
      }

module _ (parts : Parts) (said : Block) where
  pub opened : (id : ℕ) → Contains (created said.txs) id → IsOpened parts said id
  opened id has =
      let txs = said.txs in
      let prices = said.header.prices in
      let flow = flow_of_block said in
      let offers = offers_of parts said in
      let between : Account = new_account parts txs id in
      let nothing : List ℕ = replicate (assets_of parts) 0 in
      record {
        after = account_traded prices flow offers between;
        there = mapped (account_traded prices flow offers) (accounts_after parts txs) between
            (accounts_there parts txs between (all_there id_of nat_lt (map (new_account parts txs) (created txs))
            (map (account_after parts txs) parts.accounts) between
            (mapped (new_account parts txs) (created txs) id has)));
        same = refl;
        balance = λ asset lt.
            let zero_first : 0 + asset ≡ asset = omega arith in
            let many : length nothing ≡ assets_of parts = length-replicate (assets_of parts) 0 in
            let none : get_or nothing asset 0 ≡ 0 = get_or-replicate (assets_of parts) asset 0 0 lt in
            let body : get_or (balances_after parts.offers txs id 0 nothing) asset 0
            ≡ (get_or nothing asset 0 + credits parts.offers txs id asset) - debits txs id asset =
            rw zero_first at (after-at parts.offers txs id 0 nothing asset (omega arith)) in
            let range = length-after parts.offers txs id 0 nothing in
            let trade : get_or (balances_traded prices flow offers id 0
            (balances_after parts.offers txs id 0 nothing)) asset 0
            ≡ get_or (balances_after parts.offers txs id 0 nothing) asset 0 + proceeds prices flow offers id asset =
            rw zero_first at
            (traded-at prices flow offers id 0 (balances_after parts.offers txs id 0 nothing) asset (omega arith)) in
            omega arith;
      }

  pub no_other : length (ledger_after parts said).accounts ≡ length parts.accounts + length (created said.txs)
  no_other =
      let txs = said.txs in
      let news = map (new_account parts txs) (created txs) in
      let olds = map (account_after parts txs) parts.accounts in
      let traded = length-map (accounts_after parts txs)
      (account_traded said.header.prices (flow_of_block said) (offers_of parts said)) in
      let put : length (accounts_after parts txs) ≡ length news + length olds =
      ap length (put_accounts_are news olds) ∙ length-put_all id_of nat_lt news olds in
      omega (
        arith,
        traded,
        put,
        length-map (created txs) (new_account parts txs),
        length-map parts.accounts (account_after parts txs),
      )

  -- ---- offers

  offers_there : (offer : Offer)
      → Contains (put_all key_of key_before (made said.txs) (kept_offers parts.offers said.txs)) offer
      → Contains (offers_of parts said) offer
  offers_there offer there =
      subst (λ (xs : List Offer). Contains xs offer)
      (sym (put_offers_are (made said.txs) (kept_offers parts.offers said.txs))) there

  pub stays : (offer : Offer) → Contains parts.offers offer → is_cancelled said offer ≡ false
      → Contains (offers_of parts said) offer
  stays offer has uncancelled =
      offers_there offer
      (keeps_all key_of key_before (made said.txs) (kept_offers parts.offers said.txs) offer
      (passed (λ offer. not (list_any (same_key (key_of offer)) (cancelled said.txs))) parts.offers offer has
      (rw uncancelled refl)))

  pub joins : (offer : Offer) → Contains (made said.txs) offer → Contains (offers_of parts said) offer
  joins offer has =
      offers_there offer (all_there key_of key_before (made said.txs) (kept_offers parts.offers said.txs) offer has)

  pub left : (offer : Offer) → Contains (offers_of parts said) offer → gives_in parts said offer < offer.amount
      → Contains (ledger_after parts said).offers (left_of parts said offer)
  left offer has less =
      let trade = offer_traded said.header.prices (flow_of_block said) (offers_of parts said) in
      passed (λ offer. nat_lt 0 offer.amount) (map trade (offers_of parts said)) (trade offer)
      (mapped trade (offers_of parts said) offer has)
      (let some : nat_lt 0 (offer.amount - gives_in parts said offer) ≡ true = grind arith in some)
