use Rattle.std.proofs.Common.{◌≡◌, ℕ, ◌≤◌, ◌-◌, List, ◌++◌, length, take}
use Rattle.std.specs.List.{flat_map}
use Rattle.sha2.specs.Hashers.{Holds256}
use Rattle.sx_tx.specs.Transactions.{tx_bytes}
use Rattle.sx_digests.proofs.body_writing.write_and_hash.Given as goal

abbrev pub invariant-loop-done : goal.invariant-loop-done
invariant-loop-done g l = record {
  within : l.done ≤ length l.txs;
  list : l.list ≡ l.fn.list ++ flat_map tx_bytes (take l.done l.txs);
  -- what was hashed, and after it what was written last, are all that was written
  hashed : (m : List ℕ) × Holds256 l.hasher m × (m ++ l.before ≡ l.list);
}

abbrev pub decreases-loop-done : goal.decreases-loop-done
decreases-loop-done g l = length l.txs - l.done
