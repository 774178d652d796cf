-- The totals of all assets, asset by asset.
use Rattle.std.proofs.Common.{◌≡◌, ℕ, zero, suc, ◌^◌, ◌≤◌, ◌<◌, Bool, true, false, List, length, get_or, refl, sym}
use Rattle.std.proofs.Common.{arith, inl, inr}
use Rattle.std.specs.Prelude.{nat_le, slice_index}
use Rattle.std.specs.List.{list_all}
use Rattle.std.proofs.lemmas.Bool.{and_parts, and_from, leb-true, le-leb, cases_lt}
use Rattle.std.proofs.lemmas.List.{get_or_default}
use Rattle.std.proofs.lemmas.List.Sums.{AllPass-from_list_all, list_all-from_AllPass}
use Rattle.sx_ledger.specs.declared.parts.Parts.{Parts}
use Rattle.sx_ledger.specs.Ledger.{total_of}
use Rattle.sx_state.specs.Decoding.{totals_fit}

-- totals that fit are in range, and back
pub totals_in_range : (parts : Parts) (n : ℕ) → totals_fit parts n ≡ true → (asset : ℕ) → asset < n
    → total_of parts asset ≤ 2 ^ 62
unfolding totals_fit
totals_in_range parts zero fit asset lt = absurd (omega arith)
totals_in_range parts (suc n) fit asset lt =
    let both = and_parts _ _ fit in
    elim (cases_lt asset n) [
      | inl below ↦ totals_in_range parts n both.0 asset below
      | inr above ↦ let same : asset ≡ n = omega arith in rw same (leb-true _ _ both.1)
    ]

pub totals_fit_from : (parts : Parts) (n : ℕ) → ((asset : ℕ) → asset < n → total_of parts asset ≤ 2 ^ 62)
    → totals_fit parts n ≡ true
unfolding totals_fit
totals_fit_from parts zero each = refl
totals_fit_from parts (suc n) each =
    and_from _ _ (totals_fit_from parts n (λ asset lt. each asset (omega arith))) (le-leb _ _ (each n (omega arith)))

same_tests : (one other : Bool) → (one ≡ true → other ≡ true) → (other ≡ true → one ≡ true) → one ≡ other
same_tests true other first second = sym (first refl)
same_tests false true first second = second refl
same_tests false false first second = refl

-- a list of the totals of all assets fits where each of them does
pub totals_fit_is : (parts : Parts) (totals : List ℕ) (n : ℕ) → length totals ≡ n
    → ((asset : ℕ) → asset < n → slice_index totals asset ≡ total_of parts asset)
    → list_all (λ total. nat_le total (2 ^ 62)) totals ≡ totals_fit parts n
totals_fit_is parts totals n as_many are =
    let fits : ℕ → Bool = λ total. nat_le total (2 ^ 62) in
    same_tests (list_all fits totals) (totals_fit parts n)
    (λ all. totals_fit_from parts n (λ asset lt.
    let here : asset < length totals = omega arith in
    let le : slice_index totals asset ≤ 2 ^ 62 =
    leb-true (slice_index totals asset) (2 ^ 62) (AllPass-from_list_all fits totals all asset 0 here) in
    omega (arith, are asset lt)))
    (λ fit. list_all-from_AllPass fits totals (λ asset d here.
    let same : get_or totals asset d ≡ get_or totals asset 0 = get_or_default totals asset d 0 here in
    let le : total_of parts asset ≤ 2 ^ 62 = totals_in_range parts n fit asset (omega arith) in
    let value : get_or totals asset 0 ≡ total_of parts asset = are asset (omega arith) in
    rw (same, value) (le-leb (total_of parts asset) (2 ^ 62) le)))
