-- Two places of a pair's points in order that the end of the limits up to a quotient is between.
use Rattle.std.proofs.Common.{◌≡◌, ℕ, ◌+◌, ◌-◌, ◌<◌, ◌≤◌, true, false, List, length, get_or, inl, inr, sym, ap, ◌∙◌}
use Rattle.std.proofs.Common.{arith}
use Rattle.std.specs.List.{AllWithin, slice_range}
use Rattle.std.specs.List.Sorted.{IsNonDecreasingBy, IsPartitionPoint}
use Rattle.std.proofs.lemmas.Bool.{cases_lt, false_from_ne_true}
use Rattle.std.proofs.lemmas.List.{get_or_read}
use Rattle.std.proofs.lemmas.List.Edits.{get_or-between, length-between}
use Rattle.sx_curve.specs.declared.points.Point.{Point}
use Rattle.sx_curve.specs.Curves.{IsBracket, ReachesTo, is_point_below}
use Rattle.sx_curve.proofs.InOrder.{limits_part}

module _ (pair : List Point) (num den : ℕ) (rise : IsNonDecreasingBy (λ point. point.limit) pair) where
  -- where one limit is low enough, so are those before it
  pub below_through : (k end : ℕ) (point : Point) → k < length pair → point ≡ get_or pair k point
      → is_point_below num den (get_or pair k point) ≡ true → end ≡ k + 1
      → AllWithin (λ point. is_point_below num den point ≡ true) pair 0 end
  below_through k end point lt is passes next i d low high =
      let read = get_or_read pair k point lt is d in
      limits_part pair num den rise i k d (omega arith) lt (ap (is_point_below num den) (sym read ∙ is) ∙ passes)

  -- where one is not, so are those after it not
  pub above_from : (k : ℕ) (point : Point) → k < length pair → point ≡ get_or pair k point
      → is_point_below num den (get_or pair k point) ≡ false
      → AllWithin (λ point. is_point_below num den point ≡ false) pair k (length pair)
  above_from k point lt is fails i d low high =
      let read = get_or_read pair k point lt is d in
      false_from_ne_true (is_point_below num den (get_or pair i d))
      (λ yes.
      let here = limits_part pair num den rise k i d low high yes in
      let never : false ≡ true = sym fails ∙ ap (is_point_below num den) (sym is ∙ read) ∙ here in
      absurd cc)

  module _ (low high : ℕ) (bracket : IsBracket pair num den low high) where
    pub between_rise : IsNonDecreasingBy (λ point. point.limit) (slice_range pair low high)
    between_rise i j d le lt =
        let order = bracket.ordered in
        let last = bracket.within in
        let long = length-between pair low high last in
        let at_i = get_or-between pair low high i d (omega arith) in
        let at_j = get_or-between pair low high j d (omega arith) in
        rw (at_i, at_j) (rise (low + i) (low + j) d (omega arith) (omega arith))

    -- what the search between the two places tells
    pub reaches_between : (count : ℕ) → count ≤ length (slice_range pair low high)
        → IsPartitionPoint (λ point. is_point_below num den point ≡ true)
        (λ point. is_point_below num den point ≡ false)
        (slice_range pair low high) count
        → ReachesTo pair num den (low + count)
    reaches_between count fits parted =
        let order = bracket.ordered in
        let last = bracket.within in
        let long = length-between pair low high last in
        let is = λ (k : ℕ) (d : Point) (from : low ≤ k) (to : k < high).
        let place : low + (k - low) ≡ k = omega arith in
        ap (λ (n : ℕ). is_point_below num den (get_or pair n d)) (sym place)
        ∙ ap (is_point_below num den) (sym (get_or-between pair low high (k - low) d (omega arith))) in
        record {
          within = omega arith;
          below = λ k d from to. elim (cases_lt k low) [
            | inl first ↦ bracket.below k d (omega arith) first
            | inr past ↦ is k d past (omega arith) ∙ parted.0 (k - low) d (omega arith) (omega arith)
          ];
          above = λ k d from to. elim (cases_lt k high) [
            | inl within ↦ is k d (omega arith) within ∙ parted.1 (k - low) d (omega arith) (omega arith)
            | inr last ↦ bracket.above k d last to
          ];
        }
