-- Lower bounds and upper ones, of which each is one more list entry.
use Rattle.std.proofs.Common.{◌≡◌, ℕ, ◌+◌, ◌<◌, ◌≤◌, List, [], ◌∷◌, ◌++◌, length, get_or, inl, inr, sym, ◌∙◌, arith}
use Rattle.std.proofs.lemmas.Bool.{cases_eq}
use Rattle.std.proofs.lemmas.List.{get_or_push, get_or_append_left}

pub ordered_more : (low high : List ℕ) (place a b : ℕ) → length low ≡ place → length high ≡ place → a ≤ b
    → ((k : ℕ) → k < place → get_or low k 0 ≤ get_or high k 0)
    → (k : ℕ) → k < place + 1 → get_or (low ++ a ∷ []) k 0 ≤ get_or (high ++ b ∷ []) k 0
ordered_more low high place a b lows highs le each k lt =
    elim (cases_eq k place) [
      | inl same ↦ omega (arith, get_or_push low a 0 k (lows ∙ sym same), get_or_push high b 0 k (highs ∙ sym same), le)
      | inr other ↦
          omega (
            arith,
            get_or_append_left low (a ∷ []) 0 k (omega arith),
            get_or_append_left high (b ∷ []) 0 k (omega arith),
            each k (omega arith),
          )
    ]
