-- How long the encoding of a state is.
use Rattle.std.proofs.Common.{◌≡◌, ℕ, ◌+◌, ◌*◌, ◌≤◌, true, false, cond, eqb, List, [], ◌∷◌, ◌++◌, length, All, refl}
use Rattle.std.proofs.Common.{◌∙◌, arith}
use Rattle.std.specs.List.{flat_map, AllByRecursion}
use Rattle.std.proofs.Math.Nat.{mul-le-mul_right}
use Rattle.std.proofs.lemmas.List.{length-append}
use Rattle.std.proofs.lemmas.List.Elements.{recursion_from_All}
use Rattle.byteorder.specs.Endian.{big_bytes}
use Rattle.sx_ledger.specs.declared.account.Account.{Account}
use Rattle.sx_ledger.specs.declared.offer.Offer.{Offer}
use Rattle.sx_ledger.specs.declared.parts.Parts.{Parts}
use Rattle.sx_ledger.specs.Ledger.{assets_of, IsAccount, IsLedger}
use Rattle.sx_state.specs.Encoding.{map_bytes, account_bytes, offer_bytes, state_bytes}
use Rattle.sx_state.specs.Laws.{EveryStateFits}

-- texts of one length
length-texts : {X : Type 0} (encode : X → List ℕ) (k : ℕ) (xs : List X)
    → AllByRecursion (λ x. length (encode x) ≡ k) xs → length (flat_map encode xs) ≡ length xs * k
length-texts encode k [] each = omega arith
length-texts encode k (x ∷ xs) each =
    let others : length (flat_map encode xs) ≡ length xs * k = length-texts encode k xs each.1 in
    let first : length (encode x) ≡ k = each.0 in
    length-append (encode x) (flat_map encode xs) ∙ grind (arith, others, first)

pub length-numbers : (xs : List ℕ) → length (flat_map (big_bytes 8) xs) ≡ length xs * 8
length-numbers [] = refl
length-numbers (x ∷ xs) =
    let others : length (flat_map (big_bytes 8) xs) ≡ length xs * 8 = length-numbers xs in
    omega arith

-- the bytes of a map in a state of this version
abbrev pub map_length : ℕ → ℕ
map_length version = cond (eqb version 1) 0 8

length-map : (version map : ℕ) → length (map_bytes version map) ≡ map_length version
length-map version map =
    elim (eqb version 1) as (λ b. length (cond b [] (big_bytes 8 map)) ≡ cond b 0 8) [ true ↦ refl | false ↦ refl ]

length-account : (version assets : ℕ) (account : Account) → IsAccount version assets account
    → length (account_bytes version account) ≡ 16 + map_length version + 8 * assets
length-account version assets account is =
    let map = map_bytes version account.window.used in
    let balances = flat_map (big_bytes 8) account.balances in
    omega (
      arith,
      length-append map balances,
      length-map version account.window.used,
      length-numbers account.balances,
      is.balances,
    )

accounts_of_length : (version assets : ℕ) (accounts : List Account) → AllByRecursion (IsAccount version assets) accounts
    → AllByRecursion (λ account. length (account_bytes version account) ≡ 16 + map_length version + 8 * assets) accounts
accounts_of_length version assets [] are = tt
accounts_of_length version assets (account ∷ accounts) are =
    (length-account version assets account are.0, accounts_of_length version assets accounts are.1)

length-accounts : (version assets : ℕ) (accounts : List Account) → All (IsAccount version assets) accounts
    → length (flat_map (account_bytes version) accounts) ≡ length accounts * (16 + map_length version + 8 * assets)
length-accounts version assets accounts are =
    length-texts (account_bytes version) (16 + map_length version + 8 * assets) accounts
    (accounts_of_length version assets accounts (recursion_from_All (IsAccount version assets) accounts are))

length-offers : (offers : List Offer) → length (flat_map offer_bytes offers) ≡ length offers * 34
length-offers [] = refl
length-offers (offer ∷ offers) =
    let others : length (flat_map offer_bytes offers) ≡ length offers * 34 = length-offers offers in
    omega arith

pub length-state_bytes : (parts : Parts) → IsLedger parts
    → length (state_bytes parts) ≡ 18 + 16 * assets_of parts
    + length parts.accounts * (16 + map_length parts.version + 8 * assets_of parts)
    + 34 * length parts.offers
length-state_bytes parts is =
    let n = assets_of parts in
    let prices = flat_map (big_bytes 8) parts.prices in
    let rounding = flat_map (big_bytes 8) parts.rounding in
    let accounts = flat_map (account_bytes parts.version) parts.accounts in
    let offers = flat_map offer_bytes parts.offers in
    let k : ℕ = 16 + map_length parts.version + 8 * n in
    let a : length accounts ≡ length parts.accounts * k =
    length-accounts parts.version n parts.accounts is.accounts in
    let o : length offers ≡ length parts.offers * 34 = length-offers parts.offers in
    let r : length rounding ≡ length parts.rounding * 8 = length-numbers parts.rounding in
    let p : length prices ≡ length parts.prices * 8 = length-numbers parts.prices in
    let last = length-append accounts (big_bytes 4 (length parts.offers) ++ offers) in
    let from_rounding = length-append rounding
    (big_bytes 4 (length parts.accounts) ++ (accounts ++ (big_bytes 4 (length parts.offers) ++ offers))) in
    let from_prices = length-append prices
    (rounding ++ (big_bytes 4 (length parts.accounts) ++
    (accounts ++ (big_bytes 4 (length parts.offers) ++ offers)))) in
    omega (arith, is.one_rounding)

map_most : (version : ℕ) → map_length version ≤ 8
map_most version = elim (eqb version 1) as (λ b. cond b 0 8 ≤ 8) [ true ↦ omega arith | false ↦ omega arith ]

pub state_fits : EveryStateFits
state_fits parts is =
    let k : ℕ = 16 + map_length parts.version + 8 * assets_of parts in
    let short : k ≤ 280 = omega (arith, map_most parts.version, is.few_assets) in
    let most : length parts.accounts * k ≤ 65536 * k = mul-le-mul_right k is.few_accounts in
    rw (length-state_bytes parts is) (omega (arith, short, is.few_assets, is.few_offers))
