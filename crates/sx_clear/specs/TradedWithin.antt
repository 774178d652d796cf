-- What pairs trade within bounds.
use Rattle.std.specs.Prelude.{◌≡◌, ℕ, Some, is_some, if◌then◌else◌}
use Rattle.sx_block.specs.Block.{CutFits}
use Rattle.sx_block.specs.Validity.{CutHolds}
use Rattle.sx_dual.specs.declared.cut.Cut.{Cut as Set}
use Rattle.sx_dual.specs.Sums.{EachPair}
use Rattle.sx_dual.specs.Tables.{BoundsTable, high_of, low_of}
use Rattle.sx_level.specs.Solved.{IsBest}
use Rattle.sx_clear.specs.declared.trade.Trade.{Trade}

-- the lower bounds, or 0 for each pair where there is a cut
abbrev pub kept_low : Trade → (ℕ → ℕ → ℕ) → ℕ → ℕ → ℕ
kept_low trade low sell buy = if is_some trade.dropped then 0 else low sell buy

-- nothing must trade
abbrev pub HasNoLow : BoundsTable → Type 0
HasNoLow bounds = EachPair bounds.assets (λ sell buy. low_of bounds sell buy ≡ 0)

-- a flow and potentials that fit the bounds, with this cut
pub record IsFreeTrade (bounds : BoundsTable) (cut : Set) (trade : Trade) : Type 0 where
  pub best : IsBest bounds.assets (low_of bounds) (high_of bounds) trade.flow trade.potentials
  pub dropped : trade.dropped ≡ Some cut

-- a flow and potentials of n assets that fit the bounds, of which the lower ones are dropped where a cut of these
-- assets shows that no circulation keeps them
pub record IsTrade (n : ℕ) (low high : ℕ → ℕ → ℕ) (trade : Trade) : Type 0 where
  pub best : IsBest n (kept_low trade low) high trade.flow trade.potentials
  pub set : CutFits n trade.dropped
  pub cut : CutHolds n low high trade.dropped
