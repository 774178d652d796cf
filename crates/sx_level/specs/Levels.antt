-- What holds at each level. No public clause cites this module.
use Rattle.std.specs.Prelude.{◌≡◌, ℕ, ◌*◌, ◌<◌, ◌≤◌, List, slice_index}
use Rattle.sx_dual.specs.Fit.{IsTight}
use Rattle.sx_dual.specs.Sums.{EachPair}
use Rattle.sx_dual.specs.Tables.{BoundsTable, low_of, high_of, potential_of}
use Rattle.sx_net.specs.declared.arc.Arc.{Arc}
use Rattle.sx_level.specs.Shape.{surplus_of, shortage_of, total_surplus, traded, IsShaped, AreMatched}

-- Each pair is tight at the heights. What is bought of an asset more than sold is its surplus, and it stands at the
-- level then; what is sold more than bought is its shortage, and it stands at 0.
pub record IsLevel (bounds : BoundsTable) (arcs : List Arc) (heights : List ℕ) (level most : ℕ) : Type 0 where
  pub shaped : IsShaped bounds arcs
  pub matched : AreMatched bounds arcs
  pub tight : EachPair bounds.assets
      (IsTight (low_of bounds) (high_of bounds) (traded bounds arcs) (potential_of heights))
  pub surplus : (asset : ℕ) → asset < bounds.assets → 0 < surplus_of bounds.assets arcs asset →
      slice_index heights asset ≡ level
  pub shortage : (asset : ℕ) → asset < bounds.assets → 0 < shortage_of bounds.assets arcs asset →
      slice_index heights asset ≡ 0
  pub under : (asset : ℕ) → asset < bounds.assets → slice_index heights asset ≤ level
  pub in_all : total_surplus bounds.assets arcs ≤ bounds.assets * (bounds.assets * most)

-- an asset stands at the level
pub record IsHeld (n : ℕ) (heights : List ℕ) (level : ℕ) : Type 0 where
  pub asset : ℕ
  pub within : asset < n
  pub height : slice_index heights asset ≡ level

-- an asset stands at each level up to this one
abbrev pub AreHeld : ℕ → List ℕ → ℕ → Type 0
AreHeld n heights level = (at : ℕ) → at ≤ level → IsHeld n heights at
