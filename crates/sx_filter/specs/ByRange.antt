-- The candidates of parts by ranges of accounts.
use Rattle.std.specs.Prelude.{◌≡◌, ℕ, ◌<◌, ◌+◌, List, [], Option, Some, None, length, slice_get, slice_index_or}
use Rattle.std.specs.List.{filter, flat_map}
use Rattle.sx_filter.specs.Additions.{AreAdditions}
use Rattle.sx_filter.specs.Ranges.{is_in}
use Rattle.sx_filter.specs.Sifted.{TxVec}
use Rattle.sx_filter.specs.declared.parts.by_range.ByRange.{ByRange}
use Rattle.sx_filter.specs.declared.parts.preparing.Prepared.{Prepared}
use Rattle.sx_tx.specs.declared.tx.Tx.{Tx}

-- the candidates of a list, where there is one
abbrev pub items_of : Option TxVec → List Tx
items_of None = []
items_of (Some list) = list.items

-- those of a part that are in a range
abbrev pub piece : ℕ → ByRange → List Tx
piece range part = items_of (slice_get part.lists.items range)

-- those of all parts
abbrev pub pieces : ℕ → List ByRange → List Tx
pieces range parts = flat_map (piece range) parts

-- of a part the candidates in each range, and what all of them would add
pub record IsByRange (cuts : List ℕ) (part : List Tx) (found : ByRange) : Type 0 where
  pub each : (range : ℕ) → range < length cuts + 1 → piece range found ≡ filter (is_in cuts range) part
  pub more : AreAdditions part found.more

-- the same of each part
pub record AreByRange (cuts : List ℕ) (parts : List (List Tx)) (all : List ByRange) : Type 0 where
  pub one_each : length all ≡ length parts
  pub each : (k : ℕ) (c : List Tx) (d : ByRange) → k < length parts
      → IsByRange cuts (slice_index_or parts k c) (slice_index_or all k d)

-- the same of candidates in parts, and what all of them would add
pub record IsPrepared (candidates : List Tx) (prepared : Prepared) : Type 0 where
  pub parts : List (List Tx)
  pub are : candidates ≡ flat_map (λ part. part) parts
  pub found : AreByRange prepared.cuts.items parts prepared.parts.items
  pub more : AreAdditions candidates prepared.more
