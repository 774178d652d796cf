-- Trading makes and loses nothing of any asset.
use Rattle.std.proofs.Common.{◌≡◌, ℕ, zero, suc, ◌+◌, ◌<◌, ◌≤◌, true, cond, eqb, ltb, ◌&&◌, List, [], ◌∷◌, length}
use Rattle.std.proofs.Common.{get_or, map, sum_by, Some, refl, sym, ap, ap₂, ◌∙◌, inl, inr, arith}
use Rattle.std.specs.Prelude.{slice_index, ◌==◌}
use Rattle.std.specs.List.{AllByRecursion, filter}
use Rattle.std.specs.List.Sorted.{IsStrictlyIncreasing}
use Rattle.std.proofs.lemmas.Bool.{cases_Bool, and_parts, eq-eqb, ne_eqb, ltb-false, or_cases}
use Rattle.std.proofs.lemmas.List.Elements.{recursion_from_All}
use Rattle.std.proofs.lemmas.List.Sums.{sum_by-cons}
use Rattle.sx_block.specs.Effects.{IsTradable}
use Rattle.sx_block.specs.EffectLaws.{TradeConserves, TradeFallsByRounding, TradeKeepsRounding}
use Rattle.sx_block.proofs.FillLaws.{gives_has}
use Rattle.sx_ledger.specs.declared.account.Account.{Account}
use Rattle.sx_ledger.specs.declared.offer.Offer.{Offer}
use Rattle.sx_ledger.specs.declared.parts.Parts.{Parts}
use Rattle.sx_ledger.specs.Bounds.{price_of}
use Rattle.sx_ledger.specs.Fills.{given, gives, gets, got}
use Rattle.sx_ledger.specs.Ledger.{IsAccount, IsLedger, IsOffer, assets_of, balance_at, has_owner, ids, offered}
use Rattle.sx_ledger.specs.Ledger.{total_of}
use Rattle.sx_ledger.specs.Static.{has_account}
use Rattle.sx_ledger.specs.Trade.{account_traded, added, balances_traded, offer_traded, proceeds}
use Rattle.sx_ledger.proofs.ListSums.{sum_by-add, sum_by-none, sum_by-one, sum_by-same}
use Rattle.sx_ledger.proofs.PlacesOfIds.{Stands, same_place, stands}
use Rattle.sx_tx.specs.Window.{is_used}

-- ---- an offer's owner is there

owner_there : (accounts : List Account) (o : Offer) → has_owner accounts o ≡ true
    → has_account accounts o.account.0 ≡ true
owner_there [] o e = absurd cc
owner_there (account ∷ accounts) o e =
    elim (or_cases ((account.id.0 == o.account.0) && is_used account.window o.seq) (has_owner accounts o) e) [
      | inl here ↦ let own = and_parts (account.id.0 == o.account.0) (is_used account.window o.seq) here in
          rw own.0 refl
      | inr later ↦ elim (cases_Bool (eqb account.id.0 o.account.0))
          [ inl same ↦ rw same refl | inr other ↦ rw other (owner_there accounts o later) ]
    ]

-- ---- what all accounts get

-- what an offer gets of an asset for an account
abbrev part : (Offer → ℕ) → ℕ → Offer → ℕ → ℕ
part units asset o id = cond (eqb o.account.0 id && eqb o.buy asset) (units o) 0

module _ (units : Offer → ℕ) (asset : ℕ) (xs : List ℕ) (up : IsStrictlyIncreasing xs) where
  -- one offer counts for one account
  counts_once : (o : Offer) → Stands xs o.account.0
      → sum_by (part units asset o) xs ≡ cond (eqb o.buy asset) (units o) 0
  counts_once o at =
      let own = o.account.0 in
      sum_by-one (part units asset o) xs at.place own at.there
      (λ q y there other. rw (ne_eqb own y
      (λ same. other (same_place xs up q at.place own (there ∙ ap (λ (z : ℕ). Some z) (sym same)) at.there))) refl)
      ∙ rw (eq-eqb own own refl) refl

  counts_all : (os : List Offer) → AllByRecursion (λ o. Stands xs o.account.0) os
      → sum_by (λ id. sum_by (λ o. part units asset o id) os) xs ≡ sum_by (λ o. cond (eqb o.buy asset) (units o) 0) os
  counts_all [] all = sum_by-none (λ _. 0) xs (λ _ _ _. refl)
  counts_all (o ∷ os) all =
      let one = part units asset o in
      let more = λ (id : ℕ). sum_by (λ o. part units asset o id) os in
      sum_by-same (λ id. sum_by (λ o. part units asset o id) (o ∷ os)) (λ id. one id + more id) xs
      (λ id. sum_by-cons (λ o. part units asset o id) o os)
      ∙ sum_by-add one more xs ∙ ap₂ ◌+◌ (counts_once o all.0) (counts_all os all.1)
      ∙ sym (sum_by-cons (λ o. cond (eqb o.buy asset) (units o) 0) o os)

-- ---- balances

balance_is : (prices : List ℕ) (flow : ℕ → ℕ → ℕ) (offers : List Offer) (account start asset : ℕ) (balances : List ℕ)
    → asset < length balances
    → get_or (balances_traded prices flow offers account start balances) asset 0 ≡ get_or balances asset 0 +
    proceeds prices flow offers account (start + asset)
balance_is prices flow offers account start asset [] lt = absurd (omega arith)
balance_is prices flow offers account start zero (b ∷ bs) lt =
    ap (λ (x : ℕ). b + proceeds prices flow offers account x) (let e : start ≡ start + 0 = omega arith in e)
balance_is prices flow offers account start (suc asset) (b ∷ bs) lt =
    balance_is prices flow offers account (suc start) asset bs (omega arith)
    ∙ ap (λ (x : ℕ). get_or bs asset 0 + proceeds prices flow offers account x)
    (let e : suc start + asset ≡ start + suc asset = omega arith in e)

pub balances_length : (prices : List ℕ) (flow : ℕ → ℕ → ℕ) (offers : List Offer) (account start : ℕ) (balances : List ℕ)
    → length (balances_traded prices flow offers account start balances) ≡ length balances
balances_length prices flow offers account start [] = refl
balances_length prices flow offers account start (b ∷ bs) =
    ap suc (balances_length prices flow offers account (suc start) bs)

accounts_get : (prices : List ℕ) (flow : ℕ → ℕ → ℕ) (offers : List Offer) (version n asset : ℕ) → asset < n
    → (accounts : List Account) → AllByRecursion (IsAccount version n) accounts
    → sum_by (balance_at asset) (map (account_traded prices flow offers) accounts) ≡ sum_by (balance_at asset)
    accounts + sum_by (λ id. proceeds prices flow offers id asset) (ids accounts)
accounts_get prices flow offers version n asset lt [] all = refl
accounts_get prices flow offers version n asset lt (a ∷ accounts) all =
    let here : balance_at asset (account_traded prices flow offers a) ≡ balance_at asset a + proceeds prices flow
    offers a.id.0 asset =
    balance_is prices flow offers a.id.0 0 asset a.balances (omega (arith, all.0.balances))
    ∙ ap (λ (x : ℕ). balance_at asset a + proceeds prices flow offers a.id.0 x)
    (let e : 0 + asset ≡ asset = omega arith in e) in
    omega (
      arith,
      accounts_get prices flow offers version n asset lt accounts all.1,
      sum_by-cons (balance_at asset) (account_traded prices flow offers a)
          (map (account_traded prices flow offers) accounts),
      sum_by-cons (balance_at asset) a accounts,
      sum_by-cons (λ id. proceeds prices flow offers id asset) a.id.0 (ids accounts),
    )

-- ---- offers

-- an offer that is gone had nothing left
kept_all : (asset : ℕ) (os : List Offer)
    → sum_by (offered asset) (filter (λ o. ltb 0 o.amount) os) ≡ sum_by (offered asset) os
kept_all asset [] = refl
kept_all asset (o ∷ os) =
    let rest = kept_all asset os in
    elim (cases_Bool (ltb 0 o.amount)) [
      | inl stays ↦ rw stays (omega (
        arith,
        sum_by-cons (offered asset) o (filter (λ o. ltb 0 o.amount) os),
        sum_by-cons (offered asset) o os,
      ))
      | inr gone ↦
          let none : o.amount ≡ 0 = omega (arith, ltb-false 0 o.amount gone) in
          let nothing : offered asset o ≡ 0 =
          elim (cases_Bool (eqb o.sell asset)) [ inl ours ↦ rw (ours, none) refl | inr others ↦ rw others refl ] in
          rw gone (omega (arith, sum_by-cons (offered asset) o os))
    ]

module _ (prices : List ℕ) (flow : ℕ → ℕ → ℕ) (offers : List Offer) (asset : ℕ) where
  abbrev gives_of : Offer → ℕ
  gives_of o = cond (eqb o.sell asset) (gives prices flow offers o) 0

  -- what is left of an offer, and what it gives
  offer_parts : (o : Offer) → gives prices flow offers o ≤ o.amount
      → offered asset (offer_traded prices flow offers o) + gives_of o ≡ offered asset o
  offer_parts o within =
      elim (cases_Bool (eqb o.sell asset)) [ inl ours ↦ rw ours (omega arith) | inr others ↦ rw others refl ]

  offers_give : (os : List Offer) → AllByRecursion (λ o. gives prices flow offers o ≤ o.amount) os
      → sum_by (offered asset) (map (offer_traded prices flow offers) os) + sum_by gives_of os ≡ sum_by
      (offered asset) os
  offers_give [] all = refl
  offers_give (o ∷ os) all =
      omega (
        arith,
        offers_give os all.1,
        offer_parts o all.0,
        sum_by-cons (offered asset) (offer_traded prices flow offers o)
            (map (offer_traded prices flow offers) os),
        sum_by-cons gives_of o os,
        sum_by-cons (offered asset) o os,
      )

-- ---- rounding

pub added_at : (asset : ℕ) (xs ys : List ℕ) → asset < length xs → length ys ≡ length xs
    → get_or (added xs ys) asset 0 ≡ get_or xs asset 0 + get_or ys asset 0
added_at asset [] ys lt same = absurd (omega arith)
added_at asset (x ∷ xs) [] lt same = absurd (omega arith)
added_at zero (x ∷ xs) (y ∷ ys) lt same = refl
added_at (suc asset) (x ∷ xs) (y ∷ ys) lt same = added_at asset xs ys (omega arith) (omega arith)

pub added_length : (xs ys : List ℕ) → length ys ≡ length xs → length (added xs ys) ≡ length xs
added_length [] ys same = refl
added_length (x ∷ xs) [] same = absurd (omega arith)
added_length (x ∷ xs) (y ∷ ys) same = ap suc (added_length xs ys (omega arith))

-- ---- all together

prices_above : (prices : List ℕ) (n : ℕ) (accounts : List Account) (flow : ℕ → ℕ → ℕ) (offers os : List Offer)
    → ((asset : ℕ) → asset < n → 0 < price_of prices asset) → AllByRecursion (IsOffer n accounts) os
    → AllByRecursion (λ o. gives prices flow offers o ≤ o.amount) os
prices_above prices n accounts flow offers [] above all = tt
prices_above prices n accounts flow offers (o ∷ os) above all = (
  gives_has prices flow offers o (above o.sell all.0.sell),
  prices_above prices n accounts flow offers os above all.1,
)

owners_stand : (n : ℕ) (accounts : List Account) (os : List Offer) → AllByRecursion (IsOffer n accounts) os
    → AllByRecursion (λ o. Stands (ids accounts) o.account.0) os
owners_stand n accounts [] all = tt
owners_stand n accounts (o ∷ os) all =
    (stands accounts o.account.0 (owner_there accounts o all.0.owner), owners_stand n accounts os all.1)

-- no more is given of an asset than there is
pub given_there : (parts : Parts) (prices : List ℕ) (flow : ℕ → ℕ → ℕ) (asset : ℕ) → IsLedger parts
    → IsTradable parts prices flow → given prices flow parts.offers asset ≤ total_of parts asset
given_there parts prices flow asset is fits =
    let n = assets_of parts in
    let offers = parts.offers in
    let offers_are = recursion_from_All (IsOffer n parts.accounts) offers is.offers in
    let above : (a : ℕ) → a < n → 0 < price_of prices a =
    λ a below. let same = fits.same_assets in let p = fits.in_range a 0 (omega arith) in omega (arith, p.0) in
    let left =
    offers_give prices flow offers asset offers
    (prices_above prices n parts.accounts flow offers offers above offers_are) in
    omega arith

pub trade_conserves : TradeConserves
trade_conserves parts prices flow rounding asset is fits rounds lt =
    let n = assets_of parts in
    let offers = parts.offers in
    let offers_are = recursion_from_All (IsOffer n parts.accounts) offers is.offers in
    let above : (a : ℕ) → a < n → 0 < price_of prices a =
    λ a below. let same = fits.same_assets in let p = fits.in_range a 0 (omega arith) in omega (arith, p.0) in
    let units = gets prices flow offers in
    let balances =
    accounts_get prices flow offers parts.version n asset lt parts.accounts
    (recursion_from_All (IsAccount parts.version n) parts.accounts is.accounts) in
    let all_get : sum_by (λ id. proceeds prices flow offers id asset) (ids parts.accounts) ≡ got prices flow offers
    asset =
    counts_all units asset (ids parts.accounts) is.by_id offers (owners_stand n parts.accounts offers offers_are) in
    let left =
    offers_give prices flow offers asset offers
    (prices_above prices n parts.accounts flow offers offers above offers_are) in
    let kept = kept_all asset (map (offer_traded prices flow offers) offers) in
    let round : slice_index (added parts.rounding rounding) asset ≡ slice_index parts.rounding asset + slice_index
    rounding asset =
    added_at asset parts.rounding rounding (omega (arith, is.one_rounding)) (rounds.one_each ∙ sym is.one_rounding) in
    let keeps = rounds.is asset lt in
    omega arith

pub trade_keeps_rounding : TradeKeepsRounding
trade_keeps_rounding parts prices flow rounding asset is rounds lt =
    added_at asset parts.rounding rounding (omega (arith, is.one_rounding)) (rounds.one_each ∙ sym is.one_rounding)

pub trade_falls_by_rounding : TradeFallsByRounding
trade_falls_by_rounding parts prices flow rounding asset is fits rounds lt =
    omega (
      arith,
      trade_conserves parts prices flow rounding asset is fits rounds lt,
      trade_keeps_rounding parts prices flow rounding asset is rounds lt,
    )
