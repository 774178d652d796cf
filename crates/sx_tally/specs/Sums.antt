-- Sums to which entries are added.
use Rattle.std.specs.Prelude.{◌≡◌, ℕ, ◌+◌, ◌<◌, ◌≤◌, ◌^◌, ◌==◌, List, [], ◌∷◌, if◌then◌else◌, length, slice_index, slice_index_or}
use Rattle.std.specs.List.{sum_by}
use Rattle.sx_tally.specs.declared.entry.Entry.{Entry}
use Rattle.sx_tally.specs.declared.units.Units.{Units}
use Rattle.sx_tally.specs.declared.units.Units.TheVariants.{Narrow, Wide}

-- the sums, of either width
abbrev pub sums_of : Units → List ℕ
sums_of (Narrow added sums) = sums.items
sums_of (Wide sums) = sums.items

-- Where sums take 8 bytes, what is added in all fits 8 bytes, and no sum with this much more is above it.
abbrev pub HasRoom : ℕ → Units → Type 0
HasRoom more (Narrow added sums) = (added < 2 ^ 64) × ((at : ℕ) → slice_index sums.items at + more ≤ added)
HasRoom more (Wide sums) = Unit {0}

-- the amounts of entries together
abbrev pub amounts_of : List Entry → ℕ
amounts_of entries = sum_by (λ entry. entry.amount) entries

-- the units that entries add to the sum at an index, where the rows of their accounts start here
abbrev pub units_to : List Entry → List ℕ → ℕ → ℕ
units_to [] rows at = 0
units_to (entry ∷ entries) [] at = 0
units_to (entry ∷ entries) (row ∷ rows) at =
    (if row + entry.asset == at then entry.amount else 0) + units_to entries rows at

-- the index of the sum to which the entry at an index of the list is added
abbrev pub index_at : List Entry → List ℕ → ℕ → Entry → ℕ
index_at entries rows k entry = slice_index rows k + (slice_index_or entries k entry).asset

-- Entries can be added to sums, and no sum reaches this limit.
pub record CanAdd (limit : ℕ) (entries : List Entry) (rows sums : List ℕ) : Type 0 where
  pub one_each : length rows ≡ length entries
  pub within : (k : ℕ) (entry : Entry) → k < length entries → index_at entries rows k entry < length sums
  pub fits : (k : ℕ) (entry : Entry) → k < length entries
      → slice_index sums (index_at entries rows k entry) + units_to entries rows (index_at entries rows k entry) < limit

-- the sums after entries are added to those before
pub record AreSumsAfter (entries : List Entry) (rows before after : List ℕ) : Type 0 where
  pub as_many : length after ≡ length before
  pub each : (at : ℕ) → at < length before
      → slice_index after at ≡ slice_index before at + units_to entries rows at
