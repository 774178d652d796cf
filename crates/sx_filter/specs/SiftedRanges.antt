-- What is sifted of the candidates of each range.
use Rattle.std.specs.Prelude.{◌≡◌, ℕ, ◌+◌, ◌<◌, List, length, slice_index_or}
use Rattle.sx_ledger.specs.declared.parts.Parts.{Parts}
use Rattle.sx_filter.specs.declared.parts.by_range.ByRange.{ByRange}
use Rattle.sx_filter.specs.ByRange.{pieces}
use Rattle.sx_filter.specs.declared.sift.sifting.Sifted.{Sifted}
use Rattle.sx_filter.specs.Sifted.{IsSifted}

-- of each range what was sifted of its candidates
pub record AreSiftedRanges (parts : Parts) (cuts : List ℕ) (found : List ByRange) (all : List Sifted) : Type 0 where
  pub long : length all ≡ length cuts + 1
  pub each : (range : ℕ) (d : Sifted) → range < length all
      → IsSifted parts (pieces range found) (slice_index_or all range d)
