-- The ledger after trading is a ledger.
use Rattle.std.proofs.Common.{◌≡◌, ℕ, ◌^◌, ◌<◌, ◌≤◌, true, ltb, List, [], ◌∷◌, length, get_or, map, sum_by, refl, sym}
use Rattle.std.proofs.Common.{ap, subst, ◌∙◌, inl, inr, arith}
use Rattle.std.specs.Prelude.{All}
use Rattle.std.specs.List.{AllByRecursion, filter}
use Rattle.std.specs.List.Sorted.{IsStrictlyIncreasing}
use Rattle.std.proofs.lemmas.Bool.{cases_Bool, ltb-true}
use Rattle.std.proofs.lemmas.List.{length-map, get_or_default, get_or-map}
use Rattle.std.proofs.lemmas.List.Elements.{All-from_recursion, All-map, recursion_from_All}
use Rattle.std.proofs.lemmas.List.Sums.{count_by-le-length, length-filter, get_or-le-sum_by}
use Rattle.sx_block.specs.EffectLaws.{TradeKeepsLedger}
use Rattle.sx_block.proofs.TradeTotals.{added_length, balances_length, trade_conserves}
use Rattle.sx_ledger.proofs.OfferOrder.{Precedes, Rising, rising_is, rising_kept, order_is}
use Rattle.sx_ledger.specs.declared.account.Account.{Account}
use Rattle.sx_ledger.specs.declared.key.Key.{Key}
use Rattle.sx_ledger.specs.declared.offer.Offer.{Offer}
use Rattle.sx_ledger.specs.Ledger.{IsAccount, IsOffer, assets_of, balance_at, has_owner, ids, total_of}
use Rattle.sx_ledger.specs.Order.{key_of}
use Rattle.sx_ledger.specs.Trade.{account_traded, added, offer_traded, traded}

-- ---- what stays of accounts

same_ids : (prices : List ℕ) (flow : ℕ → ℕ → ℕ) (offers : List Offer) (accounts : List Account)
    → ids (map (account_traded prices flow offers) accounts) ≡ ids accounts
same_ids prices flow offers [] = refl
same_ids prices flow offers (a ∷ accounts) = ap (λ (xs : List ℕ). a.id.0 ∷ xs) (same_ids prices flow offers accounts)

same_owners : (prices : List ℕ) (flow : ℕ → ℕ → ℕ) (offers : List Offer) (o : Offer) (accounts : List Account)
    → has_owner (map (account_traded prices flow offers) accounts) o ≡ has_owner accounts o
same_owners prices flow offers o [] = refl
same_owners prices flow offers o (a ∷ accounts) = rw (same_owners prices flow offers o accounts) refl

-- ---- what stays of offers

still_precedes : (prices : List ℕ) (flow : ℕ → ℕ → ℕ) (offers : List Offer) (key : Key) (os : List Offer)
    → Precedes key os → Precedes key (map (offer_traded prices flow offers) os)
still_precedes prices flow offers key [] all = tt
still_precedes prices flow offers key (o ∷ os) all = (all.0, still_precedes prices flow offers key os all.1)

still_rising : (prices : List ℕ) (flow : ℕ → ℕ → ℕ) (offers : List Offer) (os : List Offer) → Rising os
    → Rising (map (offer_traded prices flow offers) os)
still_rising prices flow offers [] rising = tt
still_rising prices flow offers (o ∷ os) rising =
    (still_precedes prices flow offers (key_of o) os rising.0, still_rising prices flow offers os rising.1)

module _ (prices : List ℕ) (flow : ℕ → ℕ → ℕ) (offers : List Offer) (n : ℕ) (accounts : List Account) where
  abbrev after : List Account
  after = map (account_traded prices flow offers) accounts

  one_offer : (o : Offer) → IsOffer n accounts o → ltb 0 (offer_traded prices flow offers o).amount ≡ true
      → IsOffer n after (offer_traded prices flow offers o)
  one_offer o is some = record {
    sell = is.sell;
    buy = is.buy;
    differ = is.differ;
    limit = is.limit;
    account = is.account;
    seq = is.seq;
    amount = (omega (arith, ltb-true 0 (offer_traded prices flow offers o).amount some), omega (arith, is.amount));
    owner = same_owners prices flow offers (offer_traded prices flow offers o) accounts ∙ is.owner;
  }

  offers_are : (os : List Offer) → AllByRecursion (IsOffer n accounts) os
      → AllByRecursion (IsOffer n after) (filter (λ o. ltb 0 o.amount) (map (offer_traded prices flow offers) os))
  offers_are [] all = tt
  offers_are (o ∷ os) all =
      let rest = offers_are os all.1 in
      elim (cases_Bool (ltb 0 (offer_traded prices flow offers o).amount)) [
        | inl stays ↦ rw stays (one_offer o all.0 stays, rest)
        | inr gone ↦ rw gone rest
      ]

-- ---- numbers in range

-- each number is within a sum that has it as a part
balances_in_range : (most : ℕ) (accounts : List Account) (k : ℕ) (d : Account) → k < length accounts
    → ((asset : ℕ) → asset < length (get_or accounts k d).balances → sum_by (balance_at asset) accounts ≤ most)
    → All (λ balance. balance ≤ most) (get_or accounts k d).balances
balances_in_range most accounts k d lt sums i e within =
    let account = get_or accounts k d in
    let same : get_or account.balances i e ≡ get_or account.balances i 0 =
    get_or_default account.balances i e 0 within in
    let part : balance_at i account ≤ sum_by (balance_at i) accounts =
    get_or-le-sum_by (balance_at i) accounts k d lt in
    rw same (omega (arith, sums i within))

module _ (prices : List ℕ) (flow : ℕ → ℕ → ℕ) (offers : List Offer) (version n : ℕ) (accounts : List Account)
    (are : All (IsAccount version n) accounts)
    (sums : (asset : ℕ) → asset < n →
    sum_by (balance_at asset) (map (account_traded prices flow offers) accounts) ≤ 2 ^ 62) where
  abbrev trade : Account → Account
  trade = account_traded prices flow offers

  account_is : (k : ℕ) (d : Account) → k < length accounts → IsAccount version n (trade (get_or accounts k d))
  account_is k d lt =
      let is = are k d lt in
      let account = get_or accounts k d in
      let len : length (trade account).balances ≡ n =
      balances_length prices flow offers account.id.0 0 account.balances ∙ is.balances in
      let at : get_or (map trade accounts) k (trade d) ≡ trade account = get_or-map trade accounts k d (trade d) lt in
      let range : All (λ balance. balance ≤ 2 ^ 62) (get_or (map trade accounts) k (trade d)).balances =
      balances_in_range (2 ^ 62) (map trade accounts) k (trade d) (omega (arith, length-map accounts trade))
      (λ asset below. sums asset (omega (arith, ap (λ (a : Account). length a.balances) at))) in
      record {
        id = is.id;
        window = is.window;
        balances = len;
        in_range =
            subst (λ (a : Account). All (λ balance. balance ≤ 2 ^ 62) a.balances) at range;
      }

  pub accounts_are : All (IsAccount version n) (map trade accounts)
  accounts_are = All-map (IsAccount version n) trade accounts account_is

-- ---- all together

pub trade_keeps_ledger : TradeKeepsLedger
trade_keeps_ledger parts prices flow rounding is below fits rounds =
    let n = assets_of parts in
    let offers = parts.offers in
    let accounts = map (account_traded prices flow offers) parts.accounts in
    let new = traded parts prices flow rounding in
    let same = fits.same_assets in
    let total : (asset : ℕ) → asset < n → total_of new asset ≤ 2 ^ 62 =
    λ asset lt. omega (arith, trade_conserves parts prices flow rounding asset is fits rounds lt, is.totals asset lt) in
    let kept = filter (λ o. ltb 0 o.amount) (map (offer_traded prices flow offers) offers) in
    let each =
    offers_are prices flow offers n parts.accounts offers
    (recursion_from_All (IsOffer n parts.accounts) offers is.offers) in
    let all_accounts : All (IsAccount parts.version n) accounts =
    accounts_are prices flow offers parts.version n parts.accounts is.accounts
    (λ asset lt. omega (arith, total asset lt)) in
    let round_length : length (added parts.rounding rounding) ≡ n =
    added_length parts.rounding rounding (rounds.one_each ∙ sym is.one_rounding) ∙ is.one_rounding in
    record {
      some_version = is.some_version;
      few_versions = is.few_versions;
      height = omega (arith, below);
      some_asset = omega (arith, is.some_asset);
      few_assets = omega (arith, is.few_assets);
      prices = fits.in_range;
      one_rounding = round_length ∙ sym same;
      rounding =
          λ k d lt. rw (get_or_default (added parts.rounding rounding) k d 0 lt) (omega (arith, total k (omega arith)));
      few_accounts = omega (arith, length-map parts.accounts (account_traded prices flow offers), is.few_accounts);
      accounts = subst (λ (m : ℕ). All (IsAccount parts.version m) accounts) (sym same) all_accounts;
      by_id = subst IsStrictlyIncreasing (sym (same_ids prices flow offers parts.accounts)) is.by_id;
      few_offers =
          omega (
            arith,
            length-filter (λ (o : Offer). ltb 0 o.amount)
                (map (offer_traded prices flow offers) offers),
            count_by-le-length (λ (o : Offer). ltb 0 o.amount) (map (offer_traded prices flow offers) offers),
            length-map offers (offer_traded prices flow offers),
            is.few_offers,
          );
      offers =
          subst (λ (m : ℕ). All (IsOffer m accounts) kept) (sym same)
          (All-from_recursion (IsOffer n accounts) kept each);
      by_key =
          order_is kept (rising_kept (λ o. ltb 0 o.amount) (map (offer_traded prices flow offers) offers)
          (still_rising prices flow offers offers (rising_is offers is.by_key)));
      totals = λ asset lt. total asset (omega arith);
    }
