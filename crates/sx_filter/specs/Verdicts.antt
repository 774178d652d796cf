-- Verdicts on the elements of a list, place by place.
use Rattle.std.specs.Prelude.{◌≡◌, ℕ, ◌<◌, Bool, List, length, Some, slice_get, slice_index_or}

-- whether the element at a place passes
abbrev pub IsVerdict : {X : Type 0} → (X → Bool) → List X → ℕ → Bool → Type 0
IsVerdict {X} passes xs place verdict = (x : X) → slice_get xs place ≡ Some x → verdict ≡ passes x

abbrev pub AreVerdicts : {X : Type 0} → (X → Bool) → List X → List Bool → Type 0
AreVerdicts passes xs verdicts =
    (place : ℕ) (d : Bool) → place < length verdicts → IsVerdict passes xs place (slice_index_or verdicts place d)
