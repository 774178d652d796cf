-- A log of notes, and the buckets in which notes are found by their purses.
use Rattle.std.specs.Prelude.{◌≡◌, ℕ, zero, suc, ◌-◌, ◌<◌, ◌==◌, if◌then◌else◌, bit_and, List, map, reverse, length}
use Rattle.std.specs.Prelude.{slice_index_or}
use Rattle.sx_event.specs.declared.tables.Noted.{Noted}

-- the note at a place where there is none
abbrev pub no_note : Noted
no_note = record { table = 0; purse = 0; value = 0; before = 0 }

-- a note as contracts see it
abbrev pub entry_of : Noted → (ℕ × ℕ) × ℕ
entry_of note = ((note.table, note.purse), note.value)

-- the notes of a log, the newest first
abbrev pub newest_first : List Noted → List ((ℕ × ℕ) × ℕ)
newest_first log = reverse (map entry_of log)

-- the bucket of a purse, where there are so many
abbrev pub bucket_of : ℕ → ℕ → ℕ
bucket_of buckets purse = bit_and purse (buckets - 1)

-- the bucket of the note at a place
abbrev pub bucket_at : ℕ → List Noted → ℕ → ℕ
bucket_at buckets log place = bucket_of buckets (slice_index_or log place no_note).purse

-- of the first n notes, the newest one in a bucket: 1 + its place, or 0 if there is none
abbrev pub newest_in : ℕ → List Noted → ℕ → ℕ → ℕ
newest_in buckets log zero bucket = 0
newest_in buckets log (suc n) bucket =
    if bucket_at buckets log n == bucket then suc n else newest_in buckets log n bucket

-- each bucket has the newest of the first n notes as its head, and each of these has the one before it in its bucket
pub record AreChained (heads : List ℕ) (log : List Noted) (n : ℕ) : Type 0 where
  pub newest : (bucket : ℕ) → bucket < length heads →
      slice_index_or heads bucket 0 ≡ newest_in (length heads) log n bucket
  pub before : (place : ℕ) → place < n → (slice_index_or log place no_note).before ≡
      newest_in (length heads) log place (bucket_at (length heads) log place)

-- what holds of the fields: the whole log is so, and where there is no bucket there is no note
pub record AreKept (heads : List ℕ) (log : List Noted) : Type 0 where
  pub chained : AreChained heads log (length log)
  pub empty : length heads ≡ 0 → length log ≡ 0
