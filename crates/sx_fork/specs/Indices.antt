-- What calls at numbers that follow each other give.
use Rattle.std.specs.Prelude.{◌≡◌, ℕ, ◌+◌, ◌<◌, List, length, slice_index_or}
use denote.Param.Members.{Shared}
use Rattle.std.specs.Fn.{FnReturns}

-- rs is what n calls of f may give, from the number from on
pub record GivesFrom {F R : Type 0} (g : Shared F (ℕ × Unit {0}) R) (f : F) (from n : ℕ) (rs : List R) : Type 0 where
  pub len : length rs ≡ n
  pub each : (k : ℕ) (d : R) → k < n → FnReturns g f (from + k, tt) (slice_index_or rs k d)
