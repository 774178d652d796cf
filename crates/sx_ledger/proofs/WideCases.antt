-- Bodies that are admissible by the rule of version 2, where what a body credits is spent in it, and some that are not.
use Rattle.std.proofs.Common.{◌≡◌, ℕ, ◌^◌, ◌≤◌, false, ◌==◌, ◌&&◌, List, [], ◌∷◌, Ok, inl, inr, refl, subst, arith}
use Rattle.std.specs.List.{IsDistinct}
use Rattle.std.proofs.lemmas.Bool.{and_right, cases_Bool, cond-false, eqb-true}
use Rattle.std.proofs.lemmas.List.Elements.{All-from_recursion}
use Rattle.sx_ledger.specs.Body.{IsAdmissible, IsAdmissibleIn, spendable}
use Rattle.sx_ledger.specs.Effects.{debits}
use Rattle.sx_ledger.specs.Ledger.{migrated}
use Rattle.sx_ledger.specs.Static.{static_of}
use Rattle.sx_ledger.proofs.CaseWords.{cancel, opening, pay, tx, with_gap, with_offer}
use Rattle.sx_tx.specs.declared.tx.Tx.{Tx}

-- account 1 has 100, account 2 has 5
abbrev paid_back : ℕ → List Tx
paid_back back = tx 1 1 (pay 2 0 30) ∷ tx 2 1 (pay 1 0 back) ∷ []

-- no other asset is debited
no_other_asset : (back account asset : ℕ) → (0 == asset) ≡ false → debits (paid_back back) account asset ≡ 0
no_other_asset back account asset other =
    omega (
      arith,
      cond-false {A = ℕ} ((1 == account) && (0 == asset)) 30 0 (and_right (1 == account) (0 == asset) other),
      cond-false {A = ℕ} ((2 == account) && (0 == asset)) back 0 (and_right (2 == account) (0 == asset) other),
    )

abbrev IsCovered : ℕ → ℕ → ℕ → Type 0
IsCovered back account asset =
    debits (paid_back back) account asset ≤ spendable 2 opening (paid_back back) account asset

first_covered : (back : ℕ) → back ≤ 35 → (account : ℕ) → IsCovered back account 0
first_covered back few account =
    elim (cases_Bool (1 == account)) [
      | inl payer ↦ let is : 1 ≡ account = eqb-true 1 account payer in
          subst (λ (id : ℕ). IsCovered back id 0) is (omega arith)
      | inr others ↦ elim (cases_Bool (2 == account)) [
        | inl payee ↦ let is : 2 ≡ account = eqb-true 2 account payee in
            subst (λ (id : ℕ). IsCovered back id 0) is (omega arith)
        | inr neither ↦ rw (others, neither) (omega arith)
      ]
    ]

all_covered : (back : ℕ) → back ≤ 35 → (account asset : ℕ) → IsCovered back account asset
all_covered back few account asset =
    elim (cases_Bool (0 == asset)) [
      | inl first ↦ let is : 0 ≡ asset = eqb-true 0 asset first in
          subst (λ (n : ℕ). IsCovered back account n) is (first_covered back few account)
      | inr other ↦ omega (arith, no_other_asset back account asset other)
    ]

-- what is credited is spent, up to the last unit
spent_at_once : (back : ℕ) → back ≤ 35 → IsAdmissibleIn 2 opening (paid_back back)
unfolding IsDistinct
spent_at_once back few = record {
  ordered = refl;
  passes = All-from_recursion (λ t. static_of opening t ≡ Ok tt) (paid_back back) (refl, (refl, tt));
  cancels_once = tt;
  creates_once = tt;
  accounts_fit = omega arith;
  offers_fit = omega arith;
  covered = all_covered back few;
}

spends_20 : IsAdmissibleIn 2 opening (paid_back 20)
spends_20 = spent_at_once 20 (omega arith)

spends_35 : IsAdmissibleIn 2 opening (paid_back 35)
spends_35 = spent_at_once 35 (omega arith)

-- and not one unit more
spends_36 : IsAdmissibleIn 2 opening (paid_back 36) → ⊥
spends_36 is = let covered : 36 ≤ 35 = is.covered 2 0 in omega arith

-- in version 1 none of it, whatever the version of the ledger
not_in_version_1 : IsAdmissible opening (paid_back 20) → ⊥
not_in_version_1 is = let covered : 20 ≤ 5 = is.covered 2 0 in omega arith

not_in_version_1_on_a_newer_ledger : IsAdmissible (migrated opening) (paid_back 20) → ⊥
not_in_version_1_on_a_newer_ledger is = let covered : 20 ≤ 5 = is.covered 2 0 in omega arith

-- what may be spent
spendables : (spendable 1 opening (paid_back 20) 2 0 ≡ 5) × (spendable 2 opening (paid_back 20) 2 0 ≡ 35)
    × (spendable 1 opening (paid_back 20) 1 0 ≡ 100) × (spendable 2 opening (paid_back 20) 1 0 ≡ 120)
    × (spendable 2 opening (paid_back 20) 3 0 ≡ 0)
spendables = (refl, refl, refl, refl, refl)

-- what a cancellation sets free is spent, and nothing more
freed : (spendable 1 with_offer (tx 1 4 (cancel 0 1 (2 ^ 25) 3) ∷ []) 1 0 ≡ 0)
    × (spendable 2 with_offer (tx 1 4 (cancel 0 1 (2 ^ 25) 3) ∷ []) 1 0 ≡ 40)
freed = (refl, refl)

more_than_freed : IsAdmissibleIn 2 with_offer (tx 1 4 (cancel 0 1 (2 ^ 25) 3) ∷ tx 1 5 (pay 2 0 41) ∷ []) → ⊥
more_than_freed is = let covered : 41 ≤ 40 = is.covered 1 0 in omega arith

-- a number that was used is not used again
used_again : IsAdmissibleIn 2 with_gap (tx 1 9 (pay 2 0 1) ∷ []) → ⊥
used_again is = let first = is.passes 0 (tx 1 9 (pay 2 0 1)) (omega arith) in cc
