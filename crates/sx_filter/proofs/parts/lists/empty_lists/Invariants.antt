use Rattle.std.proofs.Common.{◌≡◌, ℕ, ◌<◌, [], get_or, length}
use Rattle.sx_filter.specs.Sifted.{TxVec}
use Rattle.sx_filter.proofs.parts.lists.empty_lists.Given as goal

abbrev pub invariant-loop : goal.invariant-loop
invariant-loop l = record {
  one_each : length l.lists.items ≡ l.counter;
  empty : (k : ℕ) (d : TxVec) → k < l.counter → (get_or l.lists.items k d).items ≡ [];
}
