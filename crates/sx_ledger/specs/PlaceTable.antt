-- Where ids stand that lie close together. The numbers from the first id on are cut into blocks of 128.
use Rattle.std.specs.Prelude.{◌≡◌, ◌≢◌, ℕ, ◌+◌, ◌-◌, ◌*◌, ◌/◌, ◌<◌, ◌≤◌, List, length, slice_get, slice_index, Some}
use Rattle.sx_ledger.specs.declared.place_table.PlaceTable.{PlaceTable}

-- the counts and the starts of a table after the first n ids were entered
pub record IsFilled (entries : List ℕ) (n : ℕ) (table : PlaceTable) : Type 0 where
  -- a number with a count is the id at the place that its count and the start of its block tell
  pub told : (far : ℕ) → far < length table.counts.items → slice_index table.counts.items far ≢ 0
      → (far / 128 < length table.starts.items)
      × (slice_get entries (slice_index table.starts.items (far / 128) + slice_index table.counts.items far - 1)
      ≡ Some (table.first + far))
  -- each id that was entered has a count, where the table reaches it
  pub held : (k : ℕ) → k < n → slice_index entries k - table.first < length table.counts.items
      → slice_index table.counts.items (slice_index entries k - table.first) ≢ 0
  -- a block starts at a place that was entered, or at the next one
  pub early : (b : ℕ) → b < length table.starts.items → slice_index table.starts.items b ≤ n
  -- and the ids from that place on are not below the block
  pub late : (b k : ℕ) → b < length table.starts.items → slice_index table.starts.items b ≤ k → k < length entries
      → table.first + 128 * b ≤ slice_index entries k

-- the table of a list of ids
abbrev pub IsTable : List ℕ → PlaceTable → Type 0
IsTable entries table = IsFilled entries (length entries) table
