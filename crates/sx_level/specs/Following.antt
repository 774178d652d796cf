-- What pushes from surpluses to shortages do to a net. No public clause cites this module.
use Rattle.std.specs.Prelude.{◌≡◌, ℕ, ◌+◌, ◌*◌, ◌<◌, ◌≤◌, false, List}
use Rattle.sx_dual.specs.Tables.{BoundsTable}
use Rattle.sx_net.specs.declared.arc.Arc.{Arc}
use Rattle.sx_net.specs.Arcs.{left_of, is_allowed}
use Rattle.sx_level.specs.Shape.{pair_place, surplus_of, shortage_of, total_surplus, IsShaped, AreMatched}

-- the old arcs become the new ones where value is pushed over allowed arcs
pub record Follows (bounds : BoundsTable) (old new : List Arc) : Type 0 where
  pub shaped : IsShaped bounds new
  pub matched : AreMatched bounds new
  pub allowed : (a : ℕ) → is_allowed new a ≡ is_allowed old a
  pub kept : (sell buy : ℕ) → sell < bounds.assets → buy < bounds.assets →
      is_allowed old (2 * pair_place bounds.assets sell buy) ≡ false →
      left_of new (2 * pair_place bounds.assets sell buy) ≡ left_of old (2 * pair_place bounds.assets sell buy)
  pub surplus : (asset : ℕ) → asset < bounds.assets →
      surplus_of bounds.assets new asset ≤ surplus_of bounds.assets old asset
  pub shortage : (asset : ℕ) → asset < bounds.assets →
      shortage_of bounds.assets new asset ≤ shortage_of bounds.assets old asset

-- no more than this can still be pushed
abbrev pub HasAtMost : BoundsTable → List Arc → ℕ → Type 0
HasAtMost bounds arcs most =
    (new : List Arc) → Follows bounds arcs new →
    total_surplus bounds.assets arcs ≤ total_surplus bounds.assets new + most

-- no more than some number below this one can still be pushed over each arc out of the source and any set of assets
pub record HasBelow (bounds : BoundsTable) (arcs : List Arc) (end : ℕ) : Type 0 where
  pub most : ℕ
  pub below : most < end
  pub limit : HasAtMost bounds arcs (bounds.assets * (bounds.assets + 1) * most)
