-- From a value to whole units at a price, both in units of 2^-24.
use Rattle.std.specs.Prelude.{ℕ, ◌*◌, ◌/◌, ◌≤◌}
use Rattle.std.specs.Int.{div_ceil}

-- the units that the value makes, rounded up
abbrev pub rounded_up : ℕ → ℕ → ℕ
rounded_up value price = div_ceil value price

-- the units that the value makes, rounded down
abbrev pub rounded_down : ℕ → ℕ → ℕ
rounded_down value price = value / price

-- these units are worth the value or more, and no fewer are
pub record IsLeastToReach (value price units : ℕ) : Type 0 where
  pub reaches : value ≤ price * units
  pub least : (n : ℕ) → value ≤ price * n → units ≤ n

-- these units are worth the value or less, and no more are
pub record IsGreatestWithin (value price units : ℕ) : Type 0 where
  pub within : price * units ≤ value
  pub greatest : (n : ℕ) → price * n ≤ value → n ≤ units
