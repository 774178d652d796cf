-- The passes of the workers on a stack: the last one is taken off, and the others stay.
use Rattle.std.proofs.Common.{◌≡◌, ℕ, ◌-◌, List, [], ◌∷◌, ◌++◌, length, Option, Some, None, refl}
use Rattle.std.proofs.Common.{subst, arith}
use Rattle.std.proofs.lemmas.List.{get_or_append_left, get_or_push, length-append}
use Rattle.std.specs.Option.{IsSome}
use Rattle.sx_gather.specs.Passes.{Passing}
use Rattle.sx_workers.specs.Passing.{AreHeld, IsHeld}

-- the pass on top is that of the first of the workers that are left
pub record IsTaken (Such : ℕ → Passing → Type 0) (n : ℕ) (left : List (Option Passing)) (slot : Option Passing) : Type 0
  where
    pub top : IsHeld (Such (n - 1 - length left)) slot
    pub others : AreHeld Such n left

pub taken : (Such : ℕ → Passing → Type 0) (n : ℕ) (slots left : List (Option Passing)) (slot : Option Passing)
    → AreHeld Such n slots → slots ≡ left ++ slot ∷ [] → IsTaken Such n left slot
taken Such n slots left slot held is =
    let before : AreHeld Such n (left ++ slot ∷ []) = subst (AreHeld Such n) is held in
    record {
      top =
          subst (IsHeld (Such (n - 1 - length left))) (get_or_push left slot slot (length left) refl)
          (before (length left) slot (omega (arith, length-append left (slot ∷ []))));
      others = λ place d lt.
          subst (IsHeld (Such (n - 1 - place))) (get_or_append_left left (slot ∷ []) d place lt)
          (before place d (omega (arith, lt, length-append left (slot ∷ []))));
    }

-- there is a pass, and it is such a one
pub held_is : (Such : Passing → Type 0) (slot : Option Passing) (pass : Passing) → IsHeld Such slot → slot ≡ Some pass
    → Such pass
held_is Such slot pass held is = subst (IsHeld Such) is held

pub held_some : (Such : Passing → Type 0) (slot : Option Passing) → IsHeld Such slot → IsSome slot
held_some Such (Some pass) held = refl
held_some Such None held = absurd held
