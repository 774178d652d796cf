-- Bodies that are admissible, and bodies of which one part alone is not, by the rule of version 1. Those of version 2
-- stand in WideCases.
use Rattle.std.proofs.Common.{◌≡◌, ℕ, ◌^◌, ◌≤◌, ◌==◌, [], ◌∷◌, length, Ok, All, inl}
use Rattle.std.proofs.Common.{inr, refl, subst, arith}
use Rattle.std.specs.List.{IsDistinct}
use Rattle.std.proofs.lemmas.Bool.{cases_Bool, eqb-true}
use Rattle.std.proofs.lemmas.List.Elements.{All-from_recursion}
use Rattle.std.proofs.lemmas.Map.Keys.{IsDistinct-head}
use Rattle.std.specs.Prelude.{nat_eq}
use Rattle.sx_ledger.specs.declared.parts.Parts.{Parts}
use Rattle.sx_ledger.specs.Body.{IsAdmissible}
use Rattle.sx_ledger.specs.Effects.{debits}
use Rattle.sx_ledger.specs.Body.{holding_of}
use Rattle.sx_ledger.specs.Order.{same_key}
use Rattle.sx_ledger.specs.Static.{static_of}
use Rattle.sx_ledger.proofs.CaseWords.{cancel, create, one, opening, pay, sell_for, tx, with_offer}
use Rattle.sx_tx.specs.declared.tx.Tx.{Tx}

-- ---- admissible

passing : (parts : Parts) (t : Tx) → static_of parts t ≡ Ok tt → All (λ t. static_of parts t ≡ Ok tt) (t ∷ [])
passing parts t e = All-from_recursion (λ t. static_of parts t ≡ Ok tt) (t ∷ []) (e, tt)

-- all that an account has is paid
all_paid : IsAdmissible opening (tx 1 1 (pay 2 0 100) ∷ [])
unfolding IsDistinct
all_paid = record {
  ordered = refl;
  passes = passing opening (tx 1 1 (pay 2 0 100)) refl;
  cancels_once = tt;
  creates_once = tt;
  accounts_fit = omega arith;
  offers_fit = omega arith;
  covered = covered;
}
  where
    covered : (account asset : ℕ)
        → debits (tx 1 1 (pay 2 0 100) ∷ []) account asset ≤ holding_of opening.accounts account asset
    covered account asset =
        elim (cases_Bool (1 == account)) [
          | inl own ↦ elim (cases_Bool (0 == asset)) [
            | inl first ↦
                let is : 0 ≡ asset = eqb-true 0 asset first in
                subst (λ (n : ℕ). debits (tx 1 1 (pay 2 0 100) ∷ [])
                account n ≤ holding_of opening.accounts account n) is (rw own (omega arith))
            | inr other ↦ rw (own, other) (omega arith)
          ]
          | inr other ↦ rw other (omega arith)
        ]

-- the last account that there is room for, and one too many
module _ (parts : Parts) (few : length parts.offers ≤ 262144) (passes : static_of parts (tx 1 1 (create 9)) ≡ Ok tt)
  where
    last_account : length parts.accounts ≡ 65535 → IsAdmissible parts (tx 1 1 (create 9) ∷ [])
    unfolding IsDistinct
    last_account room = record {
      ordered = refl;
      passes = passing parts (tx 1 1 (create 9)) passes;
      cancels_once = tt;
      creates_once = (tt, tt);
      accounts_fit = omega arith;
      offers_fit = omega arith;
      covered = λ account asset. omega arith;
    }

    one_account_too_many : length parts.accounts ≡ 65536 → IsAdmissible parts (tx 1 1 (create 9) ∷ []) → ⊥
    one_account_too_many full is = let fit = is.accounts_fit in omega arith

-- the last offer that there is room for, and one too many
module _ (parts : Parts) (few : length parts.accounts ≤ 65536)
    (passes : static_of parts (tx 1 1 (sell_for 0 1 one 5)) ≡ Ok tt)
    (covered : (account asset : ℕ)
    → debits (tx 1 1 (sell_for 0 1 one 5) ∷ []) account asset ≤ holding_of parts.accounts account asset) where
  last_offer : length parts.offers ≡ 262143 → IsAdmissible parts (tx 1 1 (sell_for 0 1 one 5) ∷ [])
  unfolding IsDistinct
  last_offer room = record {
    ordered = refl;
    passes = passing parts (tx 1 1 (sell_for 0 1 one 5)) passes;
    cancels_once = tt;
    creates_once = tt;
    accounts_fit = omega arith;
    offers_fit = omega arith;
    covered = covered;
  }

  one_offer_too_many : length parts.offers ≡ 262144 → IsAdmissible parts (tx 1 1 (sell_for 0 1 one 5) ∷ []) → ⊥
  one_offer_too_many full is = let fit = is.offers_fit in omega arith

-- ---- not admissible

-- by account first, then by sequence number, and no two of both
not_by_account : IsAdmissible opening (tx 2 1 (pay 1 0 1) ∷ tx 1 2 (pay 2 0 1) ∷ []) → ⊥
not_by_account is = let ordered = is.ordered in cc

not_by_number : IsAdmissible opening (tx 1 2 (pay 2 0 1) ∷ tx 1 1 (pay 2 0 1) ∷ []) → ⊥
not_by_number is = let ordered = is.ordered in cc

number_twice : IsAdmissible opening (tx 1 1 (pay 2 0 1) ∷ tx 1 1 (pay 2 0 1) ∷ []) → ⊥
number_twice is = let ordered = is.ordered in cc

-- the second one pays an account that is not there
not_passing : IsAdmissible opening (tx 1 1 (pay 2 0 1) ∷ tx 2 1 (pay 9 0 1) ∷ []) → ⊥
not_passing is = let second = is.passes 1 (tx 1 1 (pay 2 0 1)) (omega arith) in cc

-- two transactions of one account end the same offer
cancelled_twice : IsAdmissible with_offer (tx 1 4 (cancel 0 1 (2 ^ 25) 3) ∷ tx 1 5 (cancel 0 1 (2 ^ 25) 3) ∷ []) → ⊥
cancelled_twice is = let differ = (IsDistinct-head same_key _ _ is.cancels_once).0 in cc

-- two accounts create the same id
created_twice : IsAdmissible opening (tx 1 1 (create 9) ∷ tx 2 1 (create 9) ∷ []) → ⊥
created_twice is = let differ = (IsDistinct-head nat_eq 9 (9 ∷ []) is.creates_once).0 in cc

-- each payment alone is covered
overdrawn : IsAdmissible opening (tx 1 1 (pay 2 0 60) ∷ tx 1 2 (pay 2 0 60) ∷ []) → ⊥
overdrawn is = let covered : 120 ≤ 100 = is.covered 1 0 in omega arith

-- what is credited in the block is not to be spent in it
spent_at_once : IsAdmissible opening (tx 1 1 (pay 2 0 30) ∷ tx 2 1 (pay 1 0 20) ∷ []) → ⊥
spent_at_once is = let covered : 20 ≤ 5 = is.covered 2 0 in omega arith
