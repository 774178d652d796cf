-- Laws of flows, potentials and cuts, for all of them.
use Rattle.std.specs.Prelude.{◌≡◌, ℕ}
use Rattle.sx_dual.specs.declared.misfit.Misfit.{Misfit}
use Rattle.sx_dual.specs.Circulation.{IsGreatest, HaveNoCirculation, traded_value}
use Rattle.sx_dual.specs.Cuts.{IsCut}
use Rattle.sx_dual.specs.Fit.{Fits}
use Rattle.sx_dual.specs.Misfit.{IsMisfit}

-- weak duality: what fits is a greatest circulation
abbrev pub FitIsGreatest : Type 0
FitIsGreatest =
    (n : ℕ) (low high y : ℕ → ℕ → ℕ) (potential : ℕ → ℕ) →
    Fits n low high y potential → IsGreatest n low high y

-- all greatest circulations within the same bounds trade the same value
abbrev pub OneGreatestValue : Type 0
OneGreatestValue =
    (n : ℕ) (low high y other : ℕ → ℕ → ℕ) → IsGreatest n low high y → IsGreatest n low high other →
    traded_value n y ≡ traded_value n other

-- where there is a cut, there is no circulation
abbrev pub CutRefutes : Type 0
CutRefutes = (n : ℕ) (low high : ℕ → ℕ → ℕ) (set : ℕ) → IsCut n low high set → HaveNoCirculation n low high

-- what has a misfit does not fit
abbrev pub MisfitRefutes : Type 0
MisfitRefutes =
    (n : ℕ) (low high y : ℕ → ℕ → ℕ) (potential : ℕ → ℕ) (misfit : Misfit) →
    IsMisfit n low high y potential misfit → ¬ Fits n low high y potential

-- there is one first misfit at most
abbrev pub OneMisfit : Type 0
OneMisfit =
    (n : ℕ) (low high y : ℕ → ℕ → ℕ) (potential : ℕ → ℕ) (one other : Misfit) →
    IsMisfit n low high y potential one → IsMisfit n low high y potential other → one ≡ other
