-- What the three passes of `fits` have found where none found a misfit.
use Rattle.std.proofs.Common.{◌≡◌, ℕ, ◌<◌}
use Rattle.sx_dual.specs.Circulation.{IsBalanced, IsWithin}
use Rattle.sx_dual.specs.Fit.{Fits, IsTight}
use Rattle.sx_dual.specs.Sums.{EachPair}

pub fits_from : (n m : ℕ) (low high y : ℕ → ℕ → ℕ) (potential : ℕ → ℕ) → m ≡ n
    → EachPair n (IsWithin low high y) → ((asset : ℕ) → asset < m → IsBalanced m y asset) →
    EachPair n (IsTight low high y potential)
    → Fits n low high y potential
fits_from n m low high y potential same within balanced tight =
    record {
      circulation = record { within = within; balanced = rw same at balanced };
      tight = tight;
    }
