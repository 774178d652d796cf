-- What can still be moved along steps from one asset to another, within bounds. No public clause cites this module.
use Rattle.std.specs.Prelude.{◌≡◌, ◌≢◌, ℕ, ◌+◌, ◌*◌, ◌<◌, ◌≤◌, ◌⊎◌, ◌==◌, if◌then◌else◌, List, length}
use Rattle.sx_dual.specs.Circulation.{bought, sold}
use Rattle.sx_dual.specs.Tables.{BoundsTable, entry_at, high_of, low_of}

-- there is a value for each two assets, each between its bounds
pub record KeepsBounds (bounds : BoundsTable) (values : List ℕ) : Type 0 where
  pub full : length values ≡ bounds.assets * bounds.assets
  pub at_least : (sell buy : ℕ) → sell < bounds.assets → buy < bounds.assets →
      low_of bounds sell buy ≤ entry_at bounds.assets values sell buy
  pub at_most : (sell buy : ℕ) → sell < bounds.assets → buy < bounds.assets →
      entry_at bounds.assets values sell buy ≤ high_of bounds sell buy

-- a step up moves an amount by trading that much more of the pair (tail, head), and a step down by trading that much
-- less of the pair (head, tail)
abbrev pub CanMove : (ℕ → ℕ → ℕ) → (ℕ → ℕ → ℕ) → (ℕ → ℕ → ℕ) → ℕ → ℕ → ℕ → ℕ → ℕ → Type 0
CanMove low high y amount tail head from to =
    ((to ≡ from + 1) × (y tail head + amount ≤ high tail head))
    ⊎ ((from ≡ to + 1) × (low head tail + amount ≤ y head tail))

-- no step from one asset to the other leads above the height that the other has
pub record IsLevel (low high y : ℕ → ℕ → ℕ) (tail head from to : ℕ) : Type 0 where
  pub up : y tail head < high tail head → from + 1 ≤ to
  pub down : low head tail < y head tail → from ≤ to + 1

-- one pair trades an amount more, and each other pair what it did
pub record Raises (n : ℕ) (y z : ℕ → ℕ → ℕ) (sell buy amount : ℕ) : Type 0 where
  pub more : z sell buy ≡ y sell buy + amount
  pub others : (s b : ℕ) → s < n → b < n → (s ≢ sell) ⊎ (b ≢ buy) → z s b ≡ y s b

-- the amount is moved by a step up or down
abbrev pub HasMoved : ℕ → (ℕ → ℕ → ℕ) → (ℕ → ℕ → ℕ) → ℕ → ℕ → ℕ → ℕ → ℕ → Type 0
HasMoved n y z amount tail head from to =
    ((to ≡ from + 1) × Raises n y z tail head amount) ⊎ ((from ≡ to + 1) × Raises n z y head tail amount)

-- an amount at one asset, and nothing at each other one
abbrev pub only_at : ℕ → ℕ → ℕ → ℕ
only_at there amount asset = if there == asset then amount else 0

-- as much more is sold of each asset as is bought
abbrev pub KeepsBalances : ℕ → (ℕ → ℕ → ℕ) → (ℕ → ℕ → ℕ) → Type 0
KeepsBalances n y z =
    (asset : ℕ) → asset < n → sold n z asset + bought n y asset ≡ sold n y asset + bought n z asset
