-- What a binary search finds among numbers that rise.
use Rattle.std.proofs.Common.{◌≡◌, ℕ, zero, suc, ◌+◌, ◌-◌, ◌<◌, ◌≤◌, List, length, get_or, Some, Result, Ok, Err}
use Rattle.std.proofs.Common.{IfOk, IfErr, inl, inr, sym, ap, ◌∙◌, arith, add-zero}
use Rattle.std.specs.Prelude.{slice_get, Contains}
use Rattle.std.specs.List.{HoldsAt}
use Rattle.std.specs.List.Sorted.{IsSearchInRange, IsBinarySearchResult, IsNonDecreasingBy, IsStrictlyIncreasing}
use Rattle.std.specs.Ordering.{nat_cmp, ordering_index}
use Rattle.std.specs.declared.cmp.Ordering.TheVariants as ordering
use Rattle.std.proofs.lemmas.Bool.{cases_lt}
use Rattle.std.proofs.lemmas.Bool.Decides.{nat_tests}
use Rattle.std.proofs.lemmas.Cmp.{ranked}
use Rattle.std.proofs.lemmas.List.{get_or_default}
use Rattle.std.proofs.lemmas.Option.{slice_get-get_or}

-- along numbers that rise, a later one is not below an earlier one
pub rises_far : (xs : List ℕ) → IsStrictlyIncreasing xs → (i k : ℕ) → i + k < length xs
    → get_or xs i 0 ≤ get_or xs (i + k) 0
rises_far xs up i zero lt = rw (add-zero i) (omega arith)
rises_far xs up i (suc k) lt =
    let before : get_or xs i 0 ≤ get_or xs (i + k) 0 = rises_far xs up i k (omega arith) in
    let step : get_or xs (i + k) 0 < get_or xs (i + k + 1) 0 = up (i + k) (omega arith) in
    let same : i + suc k ≡ i + k + 1 = omega arith in
    rw same (omega arith)

module _ (xs : List ℕ) (up : IsStrictlyIncreasing xs) (x : ℕ) where
  -- the comparisons with x rise along the list, as a binary search asks
  comparisons_rise : IsNonDecreasingBy (λ y. ordering_index (nat_cmp y x)) xs
  comparisons_rise i j d le in_range =
      let same : i + (j - i) ≡ j = omega arith in
      let far : get_or xs i 0 ≤ get_or xs (i + (j - i)) 0 = rises_far xs up i (j - i) (omega arith) in
      let from : get_or xs i d ≡ get_or xs i 0 = get_or_default xs i d 0 (omega arith) in
      let to : get_or xs j d ≡ get_or xs j 0 = get_or_default xs j d 0 in_range in
      let rise : get_or xs i d ≤ get_or xs j d = rw (from, to) (rw same at far) in
      grind (arith, nat_tests)

  found_at : (at : ℕ) → at < length xs → HoldsAt (λ y. nat_cmp y x ≡ ordering.Equal) xs at → slice_get xs at ≡ Some x
  found_at at lt equal =
      let here : get_or xs at 0 ≡ x = ranked _ x _ (sym (equal 0)) in
      slice_get-get_or xs at 0 lt ∙ ap (λ (y : ℕ). Some y) here

  -- x is not there where the search ends at a gap
  absent_at : (at : ℕ) → at ≤ length xs → IsBinarySearchResult (λ y. nat_cmp y x) xs (Err at) → Contains xs x → ⊥
  absent_at at le parted (k, below, here) =
      let is : get_or xs k 0 ≡ x = get_or_default xs k 0 x below ∙ here in
      let parts = parted comparisons_rise in
      elim (cases_lt k at) [
        | inl lt ↦ let less : get_or xs k 0 < x = ranked _ x _ (sym (parts.0 k 0 (omega arith) lt)) in
            absurd (omega arith)
        | inr ge ↦ let more : x < get_or xs k 0 = ranked _ x _ (sym (parts.1 k 0 ge below)) in absurd (omega arith)
      ]

  pub searched : (r : Result ℕ ℕ) → IsSearchInRange r (length xs) → IsBinarySearchResult (λ y. nat_cmp y x) xs r
      → IfOk r (λ at. slice_get xs at ≡ Some x) × IfErr r (λ _. Contains xs x → ⊥)
  searched (Ok at) in_range equal = (found_at at in_range equal, tt)
  searched (Err at) in_range parted = (tt, absent_at at in_range parted)
