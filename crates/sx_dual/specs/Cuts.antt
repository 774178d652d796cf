-- Sets of assets that force in more than can go out. A set is a number, whose bit i stands for asset i.
use Rattle.std.specs.Prelude.{ℕ, ◌^◌, ◌<◌, Bool, not, ◌&&◌, ◌==◌, if◌then◌else◌}
use Rattle.std.specs.Int.{bit_at}
use Rattle.sx_dual.specs.Sums.{pair_sum}
use Rattle.sx_dual.specs.Tables.{BoundsTable, high_of, low_of}

-- the asset is in the set
abbrev pub is_in : ℕ → ℕ → Bool
is_in set asset = bit_at set asset == 1

-- a pair goes into the set where its sold asset is outside and its bought asset inside
abbrev pub goes_in : ℕ → ℕ → ℕ → Bool
goes_in set sell buy = not (is_in set sell) && is_in set buy

-- and out of it where its sold asset is inside and its bought asset outside
abbrev pub goes_out : ℕ → ℕ → ℕ → Bool
goes_out set sell buy = is_in set sell && not (is_in set buy)

-- the sums of what pairs into the set have, and of what pairs out of it have
abbrev pub sum_in : ℕ → (ℕ → ℕ → ℕ) → ℕ → ℕ
sum_in n f set = pair_sum n (λ sell buy. if goes_in set sell buy then f sell buy else 0)

abbrev pub sum_out : ℕ → (ℕ → ℕ → ℕ) → ℕ → ℕ
sum_out n f set = pair_sum n (λ sell buy. if goes_out set sell buy then f sell buy else 0)

-- more must go into the set than may go out of it
abbrev pub IsCut : ℕ → (ℕ → ℕ → ℕ) → (ℕ → ℕ → ℕ) → ℕ → Type 0
IsCut n low high set = sum_out n high set < sum_in n low set

-- the set has assets of the bounds only, and is a cut by them
pub record IsCutOf (bounds : BoundsTable) (set : ℕ) : Type 0 where
  pub within : set < 2 ^ bounds.assets
  pub cut : IsCut bounds.assets (low_of bounds) (high_of bounds) set
