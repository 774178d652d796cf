-- A walk along a list of links.
use Rattle.std.proofs.Common.{◌≡◌, ◌<◌, ◌+◌, ◌⊎◌, ℕ, List, [], length, drop, Option, Some, None, slice_get, sym}
use Rattle.std.proofs.Common.{ap, ◌∙◌, inl, inr, arith, length-drop}
use Rattle.std.proofs.lemmas.Option.{slice_get_within, some_pair_parts}
use Rattle.sx_links.specs.Lists.{rest_from}

pub shorter : (xs : List (ℕ × ℕ)) (place : ℕ) (x : ℕ × ℕ) → slice_get xs place ≡ Some x →
    length (drop (place + 1) xs) < length (drop place xs)
shorter xs place x here =
    omega (arith, slice_get_within xs place x here, length-drop (place + 1) xs, length-drop place xs)

-- what holds of the values at the first places and at one more
pub last_place : (xs : List (ℕ × ℕ)) (P : ℕ → Type 0) (place link value : ℕ) → slice_get xs place ≡ Some (link, value) →
    ((p l a : ℕ) → p < place → slice_get xs p ≡ Some (l, a) → P a) → P value →
    (p l a : ℕ) → p < place + 1 → slice_get xs p ≡ Some (l, a) → P a
last_place xs P place link value here before now p l a within there =
    let split : (p < place) ⊎ (p ≡ place) = grind arith in
    elim split [
      | inl earlier ↦ before p l a earlier there
      | inr same ↦
          let at = rw same at there in
          let is : a ≡ value = (some_pair_parts l link a value (sym at ∙ here)).1 in
          rw is now
    ]

-- at the end of the list each place is one of the first
pub seen_all : (xs : List (ℕ × ℕ)) (place : ℕ) (link : Option ℕ) → link ≡ None → rest_from link xs ≡ drop place xs →
    (p : ℕ) (x : ℕ × ℕ) → slice_get xs p ≡ Some x → p < place
seen_all xs place link none rest p x here =
    let empty : drop place xs ≡ [] = sym rest ∙ ap (λ o. rest_from o xs) none in
    omega (arith, slice_get_within xs p x here, length-drop place xs, ap length empty)
