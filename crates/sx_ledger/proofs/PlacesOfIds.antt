-- Ids that stand in a ledger, each at one place.
use Rattle.std.proofs.Common.{◌≡◌, ℕ, zero, suc, ◌+◌, ◌-◌, ◌<◌, true, false, ◌==◌, List, [], ◌∷◌, length, get_or}
use Rattle.std.proofs.Common.{Some, slice_get, inl, inr, refl, ap, arith}
use Rattle.std.specs.List.Sorted.{IsStrictlyIncreasing}
use Rattle.std.proofs.lemmas.Bool.{cases_order, or_cases, eqb-true, eq-eqb, ne_eqb}
use Rattle.std.proofs.lemmas.List.{get_or-map, length-map}
use Rattle.std.proofs.lemmas.List.Recursion.{found_at}
use Rattle.std.proofs.lemmas.Option.{slice_get_within, get_or_from_slice_get}
use Rattle.sx_ledger.specs.declared.account.Account.{Account}
use Rattle.sx_ledger.specs.Body.{holding_of}
use Rattle.sx_ledger.specs.Ledger.{balance_at, ids}
use Rattle.sx_ledger.specs.Static.{has_account}

-- an id stands somewhere among ids
pub record Stands (xs : List ℕ) (id : ℕ) : Type 0 where
  pub place : ℕ
  pub there : slice_get xs place ≡ Some id

pub stands : (accounts : List Account) (id : ℕ) → has_account accounts id ≡ true → Stands (ids accounts) id
stands [] id here = absurd cc
stands (account ∷ accounts) id here =
    elim (or_cases (account.id.0 == id) (has_account accounts id) here) [
      | inl first ↦ record { place = zero; there = ap (λ (x : ℕ). Some x) (eqb-true account.id.0 id first) }
      | inr later ↦ let rest = stands accounts id later in record { place = suc rest.place; there = rest.there }
    ]

rises : (xs : List ℕ) → IsStrictlyIncreasing xs → (i k : ℕ) → i + k + 1 < length xs
    → get_or xs i 0 < get_or xs (i + k + 1) 0
rises xs up i zero lt = let same : i + zero + 1 ≡ i + 1 = omega arith in rw same (up i (omega arith))
rises xs up i (suc k) lt =
    let before : get_or xs i 0 < get_or xs (i + k + 1) 0 = rises xs up i k (omega arith) in
    let step : get_or xs (i + k + 1) 0 < get_or xs (i + k + 1 + 1) 0 = up (i + k + 1) (omega arith) in
    let same : i + suc k + 1 ≡ i + k + 1 + 1 = omega arith in
    rw same (omega arith)

rises_to : (xs : List ℕ) → IsStrictlyIncreasing xs → (i j : ℕ) → i < j → j < length xs → get_or xs i 0 < get_or xs j 0
rises_to xs up i j lt in_range =
    let same : i + (j - i - 1) + 1 ≡ j = omega arith in
    rw same at (rises xs up i (j - i - 1) (omega arith))

-- numbers that rise are apart at two places
apart_at : (xs : List ℕ) → IsStrictlyIncreasing xs → (p q x : ℕ) → p < q → slice_get xs p ≡ Some x
    → slice_get xs q ≡ Some x → ⊥
apart_at xs up p q x lt here there =
    let rise : get_or xs p 0 < get_or xs q 0 = rises_to xs up p q lt (slice_get_within xs q x there) in
    omega (arith, get_or_from_slice_get xs p x 0 here, get_or_from_slice_get xs q x 0 there)

pub same_place : (xs : List ℕ) → IsStrictlyIncreasing xs → (p q x : ℕ) → slice_get xs p ≡ Some x
    → slice_get xs q ≡ Some x → p ≡ q
same_place xs up p q x here there =
    elim (cases_order p q) [
      | inl e ↦ e
      | inr (inl lt) ↦ absurd (apart_at xs up p q x lt here there)
      | inr (inr gt) ↦ absurd (apart_at xs up q p x gt there here)
    ]

-- what the account at a place holds is what its id holds
pub holding_at : (accounts : List Account) → IsStrictlyIncreasing (ids accounts) → (asset k : ℕ) (d : Account)
    → k < length accounts
    → holding_of accounts (get_or accounts k d).id.0 asset ≡ balance_at asset (get_or accounts k d)
holding_at accounts up asset k d lt =
    let id = (get_or accounts k d).id.0 in
    let number = λ (account : Account). account.id.0 in
    let at : (i : ℕ) → i < length accounts → get_or (ids accounts) i 0 ≡ (get_or accounts i d).id.0 =
    λ i in_range. get_or-map number accounts i d 0 in_range in
    let range : length (ids accounts) ≡ length accounts = length-map accounts number in
    let earlier : (i : ℕ) → i < k → ((get_or accounts i d).id.0 == id) ≡ false =
    λ i before. ne_eqb (get_or accounts i d).id.0 id
    (λ e. let rise : get_or (ids accounts) i 0 < get_or (ids accounts) k 0 =
    rises_to (ids accounts) up i k before (omega arith) in
    let here = at i (omega arith) in
    let there = at k lt in
    absurd (omega arith)) in
    found_at (λ accounts. holding_of accounts id asset) (λ account. account.id.0 == id) (balance_at asset) 0 refl
    (λ _ _. refl) accounts k d lt earlier (eq-eqb id id refl)
