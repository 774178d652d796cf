-- Flows that stay within bounds and balance, for bounds and flows of any size. A flow tells the value that each
-- ordered pair trades, by the sold and the bought asset.
use Rattle.std.specs.Prelude.{◌≡◌, ℕ, ◌<◌, ◌≤◌}
use Rattle.sx_dual.specs.Sums.{EachPair, between, pair_sum, sum_below}

-- the value that is sold of an asset, and the value that is bought of it
abbrev pub sold : ℕ → (ℕ → ℕ → ℕ) → ℕ → ℕ
sold n y asset = sum_below n (λ buy. between y asset buy)

abbrev pub bought : ℕ → (ℕ → ℕ → ℕ) → ℕ → ℕ
bought n y asset = sum_below n (λ sell. between y sell asset)

-- the value that all pairs trade
abbrev pub traded_value : ℕ → (ℕ → ℕ → ℕ) → ℕ
traded_value n y = pair_sum n y

-- a pair trades no less than its lower bound, and no more than its upper one
pub record IsWithin (low high y : ℕ → ℕ → ℕ) (sell buy : ℕ) : Type 0 where
  pub at_least : low sell buy ≤ y sell buy
  pub at_most : y sell buy ≤ high sell buy

-- as much is sold of the asset as is bought
abbrev pub IsBalanced : ℕ → (ℕ → ℕ → ℕ) → ℕ → Type 0
IsBalanced n y asset = sold n y asset ≡ bought n y asset

-- each pair is within its bounds, and each asset balances
pub record IsCirculation (n : ℕ) (low high y : ℕ → ℕ → ℕ) : Type 0 where
  pub within : EachPair n (IsWithin low high y)
  pub balanced : (asset : ℕ) → asset < n → IsBalanced n y asset

-- no circulation within the same bounds trades more value
pub record IsGreatest (n : ℕ) (low high y : ℕ → ℕ → ℕ) : Type 0 where
  pub circulation : IsCirculation n low high y
  pub greatest : (other : ℕ → ℕ → ℕ) → IsCirculation n low high other → traded_value n other ≤ traded_value n y

-- no flow at all keeps these bounds and balances
abbrev pub HaveNoCirculation : ℕ → (ℕ → ℕ → ℕ) → (ℕ → ℕ → ℕ) → Type 0
HaveNoCirculation n low high = (y : ℕ → ℕ → ℕ) → IsCirculation n low high y → ⊥
