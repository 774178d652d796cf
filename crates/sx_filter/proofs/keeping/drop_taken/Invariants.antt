use Rattle.std.proofs.Common.{◌≡◌, ◌≤◌, List}
use Rattle.std.specs.Prelude.{vec_len}
use Rattle.std.proofs.lemmas.List.Filters.{FiltersInPlace}
use Rattle.sx_filter.specs.Alone.{is_new}
use Rattle.sx_filter.specs.Named.{AreIds}
use Rattle.sx_filter.proofs.keeping.drop_taken.Given as goal
use Rattle.sx_tx.specs.declared.tx.Tx.{Tx}

abbrev pub invariant-loop-place : goal.invariant-loop-place
invariant-loop-place l = record {
  behind : l.kept ≤ l.place;
  long : vec_len l.txs ≡ vec_len l.fn.txs;
  chosen : (passed : List Tx) → AreIds passed l.ids
      → FiltersInPlace (is_new passed) l.fn.txs.items l.txs.items l.kept l.place;
}
