-- The passes of the workers, before and after they work.
use Rattle.std.specs.Prelude.{◌≡◌, ℕ, ◌+◌, ◌-◌, ◌<◌, ◌≤◌, List, length, slice_index_or, Option, Some, None}
use Rattle.sx_gather.specs.Passes.{Gathering, Passing, IsPassOf}
use Rattle.sx_script.specs.Actors.{part_begin}

-- there is a pass, and it is such a one
abbrev pub IsHeld : (Passing → Type 0) → Option Passing → Type 0
IsHeld Such None = ⊥
IsHeld Such (Some pass) = Such pass

-- the pass of worker k among n has the part of that worker, and memory for the outcomes to come; the first pass has
-- memory for those of all candidates
pub record HasPart (gather : Gathering) (n k : ℕ) (pass : Passing) : Type 0 where
  pub of : IsPassOf gather pass
  pub from : pass.from ≡ part_begin (length gather.candidates) n k
  pub end : pass.end ≡ part_begin (length gather.candidates) n (k + 1)
  pub spare : pass.end ≤ pass.next + pass.spare
  pub first : k ≡ 0 → length gather.candidates ≤ pass.next + pass.spare

-- before it works, and after that
abbrev pub IsWaiting : Gathering → ℕ → ℕ → Passing → Type 0
IsWaiting gather n k pass = HasPart gather n k pass × (pass.next ≡ pass.from)

abbrev pub IsDone : Gathering → ℕ → ℕ → Passing → Type 0
IsDone gather n k pass = HasPart gather n k pass × (pass.next ≡ pass.end)

-- the passes stand on a stack, that of worker 0 on top
abbrev pub AreHeld : (ℕ → Passing → Type 0) → ℕ → List (Option Passing) → Type 0
AreHeld Such n slots =
    (place : ℕ) (d : Option Passing) → place < length slots
    → IsHeld (Such (n - 1 - place)) (slice_index_or slots place d)

-- all that the pass had left is decided, and its range is the same
pub record DecidesRest (gather : Gathering) (before after : Passing) : Type 0 where
  pub of : IsPassOf gather after
  pub from : after.from ≡ before.from
  pub end : after.end ≡ before.end
  pub all : after.next ≡ before.end
  pub spare : after.next + after.spare ≡ before.next + before.spare

-- the same of what stands in a slot
abbrev pub DecidesHeld : Gathering → Option Passing → Option Passing → Type 0
DecidesHeld gather (Some before) (Some after) = DecidesRest gather before after
DecidesHeld gather _ _ = ⊥

-- a pass with memory for all that it has left
abbrev pub CanDecide : Gathering → Passing → Type 0
CanDecide gather pass = IsPassOf gather pass × (pass.end ≤ pass.next + pass.spare)
