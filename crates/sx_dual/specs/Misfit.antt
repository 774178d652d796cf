-- The first reason why a flow and potentials do not fit.
use Rattle.std.specs.Prelude.{◌≡◌, ◌≢◌, ℕ, ◌<◌, ◌⊎◌}
use Rattle.sx_dual.specs.declared.misfit.Misfit.{Misfit}
use Rattle.sx_dual.specs.declared.misfit.Misfit.TheVariants.{Outside, Unbalanced, Slack}
use Rattle.sx_dual.specs.Sums.{EachPair}
use Rattle.sx_dual.specs.Circulation.{IsWithin, IsBalanced, IsCirculation, sold, bought}
use Rattle.sx_dual.specs.Fit.{IsTight, gain_of}

-- pairs stand by the sold asset, and then by the bought one
abbrev pub ComesBefore : ℕ → ℕ → ℕ → ℕ → Type 0
ComesBefore sell buy sell' buy' = (sell < sell') ⊎ ((sell ≡ sell') × (buy < buy'))

-- the first pair of which the fact does not hold
pub record IsFirstPair (n : ℕ) (P : ℕ → ℕ → Type 0) (sell buy : ℕ) : Type 0 where
  pub sell_below : sell < n
  pub buy_below : buy < n
  pub different : sell ≢ buy
  pub fails : ¬ P sell buy
  pub earlier : EachPair n (λ s b. ComesBefore s b sell buy → P s b)

-- the first asset of which the fact does not hold
pub record IsFirstAsset (n : ℕ) (P : ℕ → Type 0) (asset : ℕ) : Type 0 where
  pub below : asset < n
  pub fails : ¬ P asset
  pub earlier : (a : ℕ) → a < asset → P a

-- the first pair out of bounds; else the first asset that does not balance; else the first pair that breaks the
-- rule on gains
abbrev pub IsMisfit : ℕ → (ℕ → ℕ → ℕ) → (ℕ → ℕ → ℕ) → (ℕ → ℕ → ℕ) → (ℕ → ℕ) → Misfit → Type 0
IsMisfit n low high y potential (Outside sell buy least most value) =
    IsFirstPair n (IsWithin low high y) sell buy ×
    (least ≡ low sell buy) × (most ≡ high sell buy) × (value ≡ y sell buy)
IsMisfit n low high y potential (Unbalanced asset out into) =
    EachPair n (IsWithin low high y) × IsFirstAsset n (IsBalanced n y) asset ×
    (out ≡ sold n y asset) × (into ≡ bought n y asset)
IsMisfit n low high y potential (Slack sell buy gain value) =
    IsCirculation n low high y × IsFirstPair n (IsTight low high y potential) sell buy ×
    (gain ≡ gain_of potential sell buy) × (value ≡ y sell buy)

-- the numbers of the misfits
abbrev pub number_of : Misfit → ℕ
number_of (Outside sell buy low high y) = 1
number_of (Unbalanced asset out into) = 2
number_of (Slack sell buy gain y) = 3
