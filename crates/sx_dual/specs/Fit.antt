-- When a flow and potentials fit, for bounds, flows and potentials of any size.
use Rattle.std.specs.Prelude.{◌≡◌, ℕ, ℤ, pos, ◌+ℤ◌, ◌-ℤ◌, ◌<ℤ◌}
use Rattle.sx_dual.specs.Sums.{EachPair}
use Rattle.sx_dual.specs.Circulation.{IsCirculation}

-- 1 + the potential of the sold asset - the potential of the bought asset
abbrev pub gain_of : (ℕ → ℕ) → ℕ → ℕ → ℤ
gain_of potential sell buy = (pos 1 +ℤ pos (potential sell)) -ℤ pos (potential buy)

-- a pair with a gain above 0 trades all that it may, and one with a gain below 0 only what it must
pub record IsTight (low high y : ℕ → ℕ → ℕ) (potential : ℕ → ℕ) (sell buy : ℕ) : Type 0 where
  pub gaining : pos 0 <ℤ gain_of potential sell buy → y sell buy ≡ high sell buy
  pub losing : gain_of potential sell buy <ℤ pos 0 → y sell buy ≡ low sell buy

pub record Fits (n : ℕ) (low high y : ℕ → ℕ → ℕ) (potential : ℕ → ℕ) : Type 0 where
  pub circulation : IsCirculation n low high y
  pub tight : EachPair n (IsTight low high y potential)
