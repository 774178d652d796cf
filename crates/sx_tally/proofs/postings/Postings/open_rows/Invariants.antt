use Rattle.std.proofs.Common.{◌≡◌, ◌≢◌, ◌<◌, ℕ, length}
use Rattle.std.specs.Prelude.{slice_index}
use Rattle.sx_tally.specs.Postings.{AreRowsFound, HasRows, credit_at, debit_at}
use Rattle.sx_tally.proofs.postings.Postings.open_rows.Given as goal

abbrev pub invariant-loop-k : goal.invariant-loop-k
invariant-loop-k l = record {
  one_each : length l.rows ≡ length l.entries;
  found : AreRowsFound l.self l.entries l.rows;
  opened : (j : ℕ) → j < l.k → slice_index l.rows j ≢ 0;
  rows : HasRows l.self (length l.fn.self.starts.items) l.fn.self.assets;
  debits : (p x : ℕ) → p < length l.fn.self.starts.items → x < l.fn.self.assets
      → debit_at l.self p x ≡ debit_at l.fn.self p x;
  credits : (p x : ℕ) → p < length l.fn.self.starts.items → x < l.fn.self.assets
      → credit_at l.self p x ≡ credit_at l.fn.self p x;
}
