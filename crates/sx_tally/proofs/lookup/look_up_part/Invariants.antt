use Rattle.std.proofs.Common.{◌≡◌, ◌+◌, ◌<◌, ℕ, IfSome, Option, length}
use Rattle.std.specs.Prelude.{slice_index_or}
use Rattle.sx_tally.specs.Known.{HasPlaces}
use Rattle.sx_tally.proofs.lookup.look_up_part.Given as goal
use Rattle.sx_ledger.specs.declared.places.Places.{Places}
use Rattle.sx_tx.specs.declared.tx.Tx.{Tx}

abbrev pub invariant-loop-k : goal.invariant-loop-k
invariant-loop-k l = record {
  one_each : length l.known ≡ length l.fn.known;
  known : (j : ℕ) (none : Option Places) (tx : Tx) → j < l.k
      → IfSome (slice_index_or l.known j none) (HasPlaces l.ledger (slice_index_or l.txs (l.from + j) tx));
}
