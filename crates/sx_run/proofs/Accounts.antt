-- Where an account stands, as a search finds it.
use Rattle.std.proofs.Common.{◌≡◌, ℕ, zero, suc, ◌+◌, ◌<◌, true, false, List, [], ◌∷◌, Option, None, Some}
use Rattle.std.proofs.Common.{slice_get, get_or, Contains, option_map, inl, inr, refl, sym, ap, ◌∙◌, arith}
use Rattle.std.proofs.lemmas.Bool.{cases_Bool}
use Rattle.std.proofs.lemmas.List.Kept.{AllPairs-from_increasing}
use Rattle.std.proofs.lemmas.Option.{get_or_from_slice_get, slice_get-map, slice_get_cases, slice_get_within}
use Rattle.std.specs.Prelude.{◌==◌}
use Rattle.sx_ledger.specs.declared.account.Account.{Account}
use Rattle.sx_ledger.specs.declared.parts.Parts.{Parts}
use Rattle.sx_ledger.specs.Ledger.{IsLedger, ids}
use Rattle.sx_meaning.specs.Proving.{account_from}

other_id : (head id : ℕ) → (head ≡ id → ⊥) → (head == id) ≡ false
other_id head id other =
    elim (cases_Bool (head == id)) [
      | inl e ↦ absurd (other (grind (arith, e)))
      | inr e ↦ e
    ]

same_id : (head id : ℕ) → head ≡ id → (head == id) ≡ true
same_id head id same = grind (arith, same)

-- no account has the id
pub none_from : (id first : ℕ) (accounts : List Account) → (Contains (ids accounts) id → ⊥)
    → account_from id first accounts ≡ None
none_from id first [] none = refl
none_from id first (head ∷ others) none =
    rw (other_id head.id.0 id (λ same. none (0, omega arith, same)))
    (none_from id (first + 1) others (λ there. none (suc there.0, omega (arith, there.1), there.2)))

-- none of the accounts before this one has its id
account_at : (id first : ℕ) (accounts : List Account) (k : ℕ) (account : Account)
    → slice_get accounts k ≡ Some account → account.id.0 ≡ id
    → ((j : ℕ) → j < k → get_or (ids accounts) j id ≡ id → ⊥)
    → account_from id first accounts ≡ Some (first + k, account)
account_at id first [] k account there is earlier = absurd (let past = slice_get_within [] k account there in omega arith)
account_at id first (head ∷ others) zero account there is earlier =
    let here : head ≡ account = cc in
    let same : head.id.0 ≡ id = ap (λ (a : Account). a.id.0) here ∙ is in
    let place : first ≡ first + 0 = omega arith in
    rw (same_id head.id.0 id same)
    (ap (λ (a : Account). Some (first, a)) here ∙ ap (λ (n : ℕ). Some (n, account)) place)
account_at id first (head ∷ others) (suc k) account there is earlier =
    let place : first + 1 + k ≡ first + suc k = omega arith in
    rw (other_id head.id.0 id (λ same. earlier 0 (omega arith) same))
    (account_at id (first + 1) others k account there is
    (λ j lt same. earlier (suc j) (omega (arith, lt)) same)
    ∙ ap (λ (n : ℕ). Some (n, account)) place)

-- the account that a search finds by its id
pub found_from : (parts : Parts) (id place : ℕ) (account : Account) → IsLedger parts
    → slice_get (ids parts.accounts) place ≡ Some id → slice_get parts.accounts place ≡ Some account
    → account_from id 0 parts.accounts ≡ Some (place, account)
found_from parts id place account is found there =
    let mapped = slice_get-map (λ (a : Account). a.id.0) parts.accounts place in
    let held : Some id ≡ Some account.id.0 =
    sym found ∙ mapped ∙ ap (λ (o : Option Account). option_map (λ (a : Account). a.id.0) o) there in
    let is_id : account.id.0 ≡ id = cc in
    let rising = AllPairs-from_increasing (ids parts.accounts) is.by_id in
    let within = slice_get_within (ids parts.accounts) place id found in
    let at = get_or_from_slice_get (ids parts.accounts) place id id found in
    let plain : 0 + place ≡ place = omega arith in
    account_at id 0 parts.accounts place account there is_id
    (λ j lt same. omega (arith, rising j place id lt within, at, same))
    ∙ ap (λ (n : ℕ). Some (n, account)) plain

-- an account stands where its id does
pub some_account : (parts : Parts) (id place : ℕ) → slice_get (ids parts.accounts) place ≡ Some id
    → (account : Account) × (slice_get parts.accounts place ≡ Some account)
some_account parts id place found =
    elim (slice_get_cases parts.accounts place).1 [
      | inl there ↦ (there.0, there.2)
      | inr none ↦ absurd (
          let mapped = slice_get-map (λ (a : Account). a.id.0) parts.accounts place
          ∙ ap (λ (o : Option Account). option_map (λ (a : Account). a.id.0) o) none.1 in
          let both = sym found ∙ mapped in
          cc
          )
    ]
