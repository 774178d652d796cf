use Rattle.std.proofs.Common.{◌≡◌, ℕ, ◌<◌, [], get_or, length}
use Rattle.sx_layout.specs.declared.share.Share.{Share}
use Rattle.sx_layout.proofs.opening.empty_shares.Given as goal

abbrev pub invariant-loop-shard : goal.invariant-loop-shard
invariant-loop-shard l = record {
  one_each : length l.shares.items ≡ l.shard;
  balances : (k : ℕ) (d : Share) → k < l.shard → (get_or l.shares.items k d).balances.items ≡ [];
  used : (k : ℕ) (d : Share) → k < l.shard → (get_or l.shares.items k d).used.items ≡ [];
}
