-- Why the laws of the posted prices hold.
use Rattle.std.proofs.Common.{◌≡◌, ℕ, ◌≤◌, cond, nat_lt, List, sum_by, pos, ◌-ℤ◌, unsigned_abs, refl, ap, ◌∙◌, arith}
use Rattle.std.specs.List.Sorted.{IsPermutation}
use Rattle.std.proofs.lemmas.Bool.{cond_both}
use Rattle.sx_curve.specs.declared.quote.Quote.{Quote}
use Rattle.sx_curve.specs.Demand.{assets_of, imbalance, value_into, value_out}
use Rattle.sx_curve.proofs.PairValues.{sold_permuted}
use Rattle.sx_curve.proofs.SearchLaws.{search_permuted}
use Rattle.std.specs.Prelude.{slice_index}
use Rattle.sx_multi.specs.Laws.{MoreAreNoWorse, OneIsUsual, PostedIsBest, PostedMends, PostedPermuted}
use Rattle.sx_multi.specs.Posted.{end_of, first_exponents, first_least, off_of}
use Rattle.sx_multi.proofs.Best.{is_first_least, no_greater}

pub posted_is_best : PostedIsBest
posted_is_best quotes start j rounds searches some =
    let off = off_of quotes start j rounds in
    (first_least off searches, is_first_least off searches some, refl)

pub posted_mends : PostedMends
unfolding first_least
posted_mends quotes start j rounds searches = no_greater (off_of quotes start j rounds) 0 searches (omega arith)

pub one_is_usual : OneIsUsual
unfolding first_least
one_is_usual quotes start j rounds =
    let off = off_of quotes start j rounds in
    cond_both (nat_lt (off 0) (off 0)) 0 0
    (λ (i : ℕ). end_of quotes start j rounds i ≡ end_of quotes start j rounds 0) (λ less. refl) (λ no. refl)

pub more_are_no_worse : MoreAreNoWorse
more_are_no_worse quotes start j rounds few many le = no_greater (off_of quotes start j rounds) few many le

-- ---- the order of the quotes

module _ (xs ys : List Quote) (h : IsPermutation xs ys) where
  imbalance_permuted : (prices : List ℕ) (j : ℕ) → imbalance ys prices j ≡ imbalance xs prices j
  unfolding value_into value_out imbalance
  imbalance_permuted prices j =
      λ i. sum_by
      (λ asset. unsigned_abs
      (pos (sum_by (λ sell. sold_permuted xs ys prices j sell asset h i) (assets_of prices))
      -ℤ pos (sum_by (λ buy. sold_permuted xs ys prices j asset buy h i) (assets_of prices))))
      (assets_of prices)

  module _ (start : List ℕ) (j rounds : ℕ) where
    end_permuted : (k : ℕ) → end_of ys start j rounds k ≡ end_of xs start j rounds k
    end_permuted k = search_permuted (slice_index first_exponents k) xs ys start j rounds h

    off_permuted : (k : ℕ) → off_of ys start j rounds k ≡ off_of xs start j rounds k
    off_permuted k =
        imbalance_permuted (end_of ys start j rounds k) j
        ∙ ap (λ (prices : List ℕ). imbalance xs prices j) (end_permuted k)

    least_permuted : (n : ℕ) → first_least (off_of ys start j rounds) n ≡ first_least (off_of xs start j rounds) n
    least_permuted n = λ i. first_least (λ k. off_permuted k i) n

pub posted_permuted : PostedPermuted
posted_permuted xs ys start j rounds searches h =
    λ i. end_permuted xs ys h start j rounds (least_permuted xs ys h start j rounds searches i) i
