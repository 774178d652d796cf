use Rattle.std.proofs.Common.{◌≡◌, ◌≤◌, Bool, length}
use Rattle.std.specs.Prelude.{vec_len}
use Rattle.std.proofs.lemmas.List.Filters.{FiltersInPlace}
use Rattle.sx_filter.specs.Verdicts.{AreVerdicts}
use Rattle.sx_filter.proofs.sift.fitting.keep.Given as goal
use Rattle.sx_tx.specs.declared.tx.Tx.{Tx}

abbrev pub invariant-loop-place : goal.invariant-loop-place
invariant-loop-place l = record {
  behind : l.kept ≤ l.place;
  one_each : vec_len l.txs ≡ length l.verdicts;
  chosen : (passes : Tx → Bool) → AreVerdicts passes l.fn.txs.items l.verdicts
      → FiltersInPlace passes l.fn.txs.items l.txs.items l.kept l.place;
}
