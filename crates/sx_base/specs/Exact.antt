-- What it means to fill a slice to its end from a source that tells its bytes.
use Rattle.std.specs.Prelude.{◌≡◌, ℕ, ◌<◌, ◌≤◌, List, [], ◌++◌, length, take, drop, Option, None, Some, Result, Err}
use Rattle.sx_base.specs.declared.exact.TakeFault.{TakeFault}
use Rattle.sx_base.specs.declared.exact.TakeFault.TheVariants.{Failed, Ended}

-- there were enough bytes, and the first of them fill the slice
pub record FillsSlice (bytes : List ℕ) (after : Option (List ℕ)) (old new : List ℕ) : Type 0 where
  pub enough : length old ≤ length bytes
  pub left : after ≡ Some (drop (length old) bytes)
  pub filled : new ≡ take (length old) bytes

-- there were too few bytes, and the slice begins with all of them
pub record EmptiesSource
    (bytes : List ℕ) (after : Option (List ℕ)) (got : ℕ) (old new : List ℕ) : Type 0 where
  pub all : got ≡ length bytes
  pub too_few : length bytes < length old
  pub left : after ≡ Some []
  pub filled : new ≡ bytes ++ drop got old

-- the slice was filled from a source that told its bytes before the call, and nothing is said of
-- any other
abbrev pub IsFilled : Option (List ℕ) → Option (List ℕ) → List ℕ → List ℕ → Type 0
IsFilled None after old new = Unit {0}
IsFilled (Some bytes) after old new = FillsSlice bytes after old new

-- such a source ended after `got` bytes
abbrev pub EndsEarly : Option (List ℕ) → Option (List ℕ) → ℕ → List ℕ → List ℕ → Type 0
EndsEarly None after got old new = Unit {0}
EndsEarly (Some bytes) after got old new = EmptiesSource bytes after got old new

-- a fact at the answer `Failed`
abbrev pub OnFailed : {T : Type 0} → Result T TakeFault → Type 0 → Type 0
OnFailed (Err Failed) fact = fact
OnFailed _ fact = Unit {0}

-- a fact at the answer `Ended`, of how many bytes came
abbrev pub IfEnded : {T : Type 0} → Result T TakeFault → (ℕ → Type 0) → Type 0
IfEnded (Err (Ended got)) fact = fact got
IfEnded _ fact = Unit {0}
