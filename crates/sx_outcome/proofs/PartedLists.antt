-- A list in which what passes a test stands in front of the rest, as far as it was looked at.
use Rattle.std.proofs.Common.{◌≡◌, ℕ, ◌+◌, ◌<◌, ◌≤◌, Bool, true, false, List, get_or, length, ap, ◌∙◌, inl, inr, arith}
use Rattle.std.specs.List.{AllWithin, swap}
use Rattle.std.proofs.lemmas.Bool.{cases_eq}
use Rattle.std.proofs.lemmas.List.Edits.{Swapped, swapped_from_swap}
use mir.Val.{bool_byte}

module _ {X : Type 0} (goes : X → Bool) where
  abbrev pub IsParted : List X → ℕ → ℕ → Type 0
  IsParted xs end place =
      AllWithin (λ (x : X). goes x ≡ true) xs 0 end × AllWithin (λ (x : X). goes x ≡ false) xs end place

  module _ (xs ys : List X) (end place : ℕ) (under : end ≤ place) (within : place < length xs)
      (moved : ys ≡ swap xs place end) (parted : IsParted xs end place) where
    swapped : (d : X) → Swapped (λ (k : ℕ). get_or xs k d) (λ (k : ℕ). get_or ys k d) place end
    swapped d = swapped_from_swap xs ys place end d within (omega arith) moved

    in_front : (k : ℕ) (d : X) → k < end → goes (get_or ys k d) ≡ true
    in_front k d lt =
        ap goes ((swapped d).2 k (λ e. omega arith) (λ e. omega arith)) ∙ parted.0 k d (omega arith) lt

    in_rest : (k : ℕ) (d : X) → end < k → k < place + 1 → goes (get_or ys k d) ≡ false
    in_rest k d over lt = elim (cases_eq k place) [
      | inl e ↦
          ap (λ (n : ℕ). goes (get_or ys n d)) e ∙ ap goes (swapped d).0 ∙ parted.1 end d (omega arith) (omega arith)
      | inr other ↦
          ap goes ((swapped d).2 k other (λ e. omega arith)) ∙ parted.1 k d (omega arith) (omega arith)
    ]

    at_end : (answer : Bool) → ((d : X) → goes (get_or xs place d) ≡ answer) → (k : ℕ) (d : X) → k ≡ end
        → goes (get_or ys k d) ≡ answer
    at_end answer is k d e = ap (λ (n : ℕ). goes (get_or ys n d)) e ∙ ap goes (swapped d).1 ∙ is d

    -- one element more is looked at: the first of the rest changes places with it
    pub one_more : (answer : Bool) → ((d : X) → goes (get_or xs place d) ≡ answer)
        → IsParted ys (end + bool_byte answer) (place + 1)
    one_more true is = (
      λ k d from lt. elim (cases_eq k end) [
        | inl e ↦ at_end true is k d e
        | inr other ↦ in_front k d (omega arith)
      ],
      λ k d from lt. in_rest k d (omega arith) lt,
    )
    one_more false is = (
      λ k d from lt. in_front k d (omega arith),
      λ k d from lt. elim (cases_eq k end) [
        | inl e ↦ at_end false is k d e
        | inr other ↦ in_rest k d (omega arith) lt
      ],
    )
