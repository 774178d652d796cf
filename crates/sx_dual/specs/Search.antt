-- What is looked for in a flow: the pairs that break a rule, among all that sell one asset.
use Rattle.std.specs.Prelude.{ℕ, ◌≢◌, ◌<◌, List}
use Rattle.sx_dual.specs.Circulation.{IsWithin}
use Rattle.sx_dual.specs.Fit.{IsTight}
use Rattle.sx_dual.specs.Tables.{BoundsTable, FlowTable, high_of, low_of, potential_of, value_of}

-- the fact holds of each pair that sells the asset
abbrev pub EachFrom : ℕ → (ℕ → ℕ → Type 0) → ℕ → Type 0
EachFrom n P sell = (buy : ℕ) → buy < n → sell ≢ buy → P sell buy

-- the first of them of which it does not hold
pub record IsFirstFrom (n : ℕ) (P : ℕ → ℕ → Type 0) (sell buy : ℕ) : Type 0 where
  pub below : buy < n
  pub different : sell ≢ buy
  pub fails : ¬ P sell buy
  pub earlier : (b : ℕ) → b < buy → sell ≢ b → P sell b

-- a pair of the flow is within its bounds
abbrev pub PairWithin : BoundsTable → FlowTable → ℕ → ℕ → Type 0
PairWithin bounds flow = IsWithin (low_of bounds) (high_of bounds) (value_of flow)

-- a pair of the flow keeps the rule on gains
abbrev pub PairTight : BoundsTable → FlowTable → List ℕ → ℕ → ℕ → Type 0
PairTight bounds flow potentials = IsTight (low_of bounds) (high_of bounds) (value_of flow) (potential_of potentials)
