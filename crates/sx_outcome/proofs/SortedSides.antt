-- A list that is parted in two sides is in order once each side is in order.
use Rattle.std.proofs.Common.{◌≡◌, ℕ, ◌+◌, ◌-◌, ◌<◌, Bool, true, false, List, ◌++◌, get_or, length, ap, ap₂, subst, ◌∙◌, inl, inr, arith}
use Rattle.std.specs.Prelude.{All}
use Rattle.std.specs.Cmp.{IsStrictWeakOrder}
use Rattle.std.specs.List.{AllWithin}
use Rattle.std.specs.List.Sorted.{IsPermutation, IsSortedBy}
use Rattle.std.proofs.lemmas.Bool.{cases_order}
use Rattle.std.proofs.lemmas.List.{get_or-append-add, get_or_append_left, length-append}
use Rattle.std.proofs.lemmas.List.Sorted.{All-permutation}

module _ {X : Type 0} (P : X → Type 0) (front rest : List X) where
  all_front : AllWithin P (front ++ rest) 0 (length front) → All P front
  all_front all k d lt = subst P (get_or_append_left front rest d k lt) (all k d (omega arith) lt)

  all_rest : AllWithin P (front ++ rest) (length front) (length (front ++ rest)) → All P rest
  all_rest all k d lt =
      subst P (get_or-append-add front rest k d)
      (all (length front + k) d (omega arith) (omega (arith, length-append front rest)))

module _ {X : Type 0} (less : X → X → Bool) (order : IsStrictWeakOrder less) (by : X) where
  abbrev IsBefore : X → Type 0
  IsBefore one = less one by ≡ true

  abbrev IsNotBefore : X → Type 0
  IsNotBefore one = less one by ≡ false

  module _ (front rest : List X) (low : All IsBefore front) (high : All IsNotBefore rest)
      (front_up : IsSortedBy less front) (rest_up : IsSortedBy less rest) where
    -- the last of the front and the first of the rest
    where_they_meet : (k : ℕ) (d : X) → k + 1 ≡ length front → length front < length (front ++ rest)
        → less (get_or rest 0 d) (get_or front k d) ≡ false
    where_they_meet k d last more =
        let long = length-append front rest in
        order.chain (get_or rest 0 d) by (get_or front k d) (high 0 d (omega arith))
        (order.one_way (get_or front k d) by (low k d (omega arith)))

    joined_sides : IsSortedBy less (front ++ rest)
    joined_sides k d from within =
        let long = length-append front rest in
        let in_rest : (place rest_place : ℕ) → place ≡ length front + rest_place
        → get_or (front ++ rest) place d ≡ get_or rest rest_place d =
        λ place rest_place at.
        ap (λ (n : ℕ). get_or (front ++ rest) n d) at ∙ get_or-append-add front rest rest_place d in
        elim (cases_order (k + 1) (length front)) [
          | inl last ↦
              ap₂ less (in_rest (k + 1) 0 (omega arith)) (get_or_append_left front rest d k (omega arith))
              ∙ where_they_meet k d last (omega arith)
          | inr (inl inner) ↦
              ap₂ less (get_or_append_left front rest d (k + 1) inner) (get_or_append_left front rest d k (omega arith))
              ∙ front_up k d (omega arith) inner
          | inr (inr over) ↦
              let next = k - length front in
              ap₂ less (in_rest (k + 1) (next + 1) (omega arith)) (in_rest k next (omega arith))
              ∙ rest_up next d (omega arith) (omega arith)
        ]

  -- a list is parted before `by` at a place, and each side is put in order
  pub sorted_sides : (xs front rest new_front new_rest : List X) (place : ℕ)
      → AllWithin IsBefore xs 0 place → AllWithin IsNotBefore xs place (length xs)
      → xs ≡ front ++ rest → length front ≡ place
      → IsPermutation front new_front × IsSortedBy less new_front
      → IsPermutation rest new_rest × IsSortedBy less new_rest
      → IsSortedBy less (new_front ++ new_rest)
  sorted_sides xs front rest new_front new_rest place low high is long one other =
      let low_parts : AllWithin IsBefore (front ++ rest) 0 (length front) =
      λ k d from lt. subst (λ (list : List X). IsBefore (get_or list k d)) is (low k d from (omega arith)) in
      let high_parts : AllWithin IsNotBefore (front ++ rest) (length front) (length (front ++ rest)) =
      λ k d from lt. subst (λ (list : List X). IsNotBefore (get_or list k d)) is
      (high k d (omega arith) (omega (arith, ap length is))) in
      joined_sides new_front new_rest
      (All-permutation IsBefore front new_front one.0 (all_front IsBefore front rest low_parts))
      (All-permutation IsNotBefore rest new_rest other.0 (all_rest IsNotBefore front rest high_parts))
      one.1 other.1
