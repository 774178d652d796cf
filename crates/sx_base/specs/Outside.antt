-- What a call does to a count of faults, and to the bytes of a source or a sink that tells them.
use Rattle.std.specs.Prelude.{◌≡◌, ◌⊎◌, ℕ, ◌-◌, ◌^◌, ◌<◌, ◌≤◌, List, [], ◌++◌, length, take, drop, Option, None, Some}

-- the count is greater after the call, or it is at its last value
abbrev pub Rose : ℕ → ℕ → Type 0
Rose old new = (old < new) ⊎ (new ≡ 2 ^ 64 - 1)

-- the first n of these bytes are now the first n of a slice, and n is 0 only where the slice is
-- empty or there was no byte
pub record TakesBytes
    (bytes : List ℕ) (after : Option (List ℕ)) (n : ℕ) (old new : List ℕ) : Type 0 where
  pub enough : n ≤ length bytes
  pub left : after ≡ Some (drop n bytes)
  pub filled : new ≡ take n bytes ++ drop n old
  pub at_end : n ≡ 0 → 0 < length old → bytes ≡ []

-- the same for a source that told its bytes before the call, and nothing for any other
abbrev pub TakesPrefix : Option (List ℕ) → Option (List ℕ) → ℕ → List ℕ → List ℕ → Type 0
TakesPrefix None after n old new = Unit {0}
TakesPrefix (Some bytes) after n old new = TakesBytes bytes after n old new

-- a sink that tells its bytes has this piece after them
abbrev pub Appends : Option (List ℕ) → Option (List ℕ) → List ℕ → Type 0
Appends None after piece = Unit {0}
Appends (Some written) after piece = after ≡ Some (written ++ piece)

-- a sink that tells its bytes has a prefix of these after them
abbrev pub AppendsPrefix : Option (List ℕ) → Option (List ℕ) → List ℕ → Type 0
AppendsPrefix None after bytes = Unit {0}
AppendsPrefix (Some written) after bytes =
    (n : ℕ) × (n ≤ length bytes) × (after ≡ Some (written ++ take n bytes))
