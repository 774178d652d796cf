-- Where the buckets of an index of ids begin. Ids that are equal after a shift to the right are one bucket.
use Rattle.std.specs.Prelude.{ℕ, ◌+◌, ◌/◌, ◌^◌, ◌<◌, ◌≤◌, List, length, slice_index}

-- the ids before the place are of earlier buckets, and those from it on of this bucket or later ones
pub record IsBegin (entries : List ℕ) (shift bucket place : ℕ) : Type 0 where
  pub within : place ≤ length entries
  pub earlier : (k : ℕ) → k < place → slice_index entries k / 2 ^ shift < bucket
  pub later : (k : ℕ) → place ≤ k → k < length entries → bucket ≤ slice_index entries k / 2 ^ shift

abbrev pub AreBegins : List ℕ → ℕ → List ℕ → Type 0
AreBegins entries shift begins =
    (bucket : ℕ) → bucket < length begins → IsBegin entries shift bucket (slice_index begins bucket)

-- the last of the places ends the last bucket
pub record AreBuckets (entries : List ℕ) (shift : ℕ) (begins : List ℕ) : Type 0 where
  pub small : shift < 64
  pub places : AreBegins entries shift begins
  pub covered : (k : ℕ) → k < length entries → slice_index entries k / 2 ^ shift + 1 < length begins
