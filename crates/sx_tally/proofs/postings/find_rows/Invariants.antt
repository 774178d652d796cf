use Rattle.std.proofs.Common.{◌≡◌, ◌<◌, ℕ, length}
use Rattle.std.specs.Prelude.{slice_index, slice_index_or}
use Rattle.sx_tally.specs.declared.entry.Entry.{Entry}
use Rattle.sx_tally.proofs.postings.find_rows.Given as goal

abbrev pub invariant-loop-k : goal.invariant-loop-k
invariant-loop-k l = record {
  one_each : length l.rows ≡ length l.entries;
  found : (j : ℕ) (entry : Entry) → j < l.k
      → slice_index l.rows j ≡ slice_index l.starts (slice_index_or l.entries j entry).place;
}
