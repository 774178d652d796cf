use Rattle.std.proofs.Common.{◌≡◌, ℕ, ◌+◌, ◌<◌, get_or, length, map}
use Rattle.std.specs.Prelude.{vec_len}
use Rattle.std.specs.Vec.Iter.{into_iter_items, into_iter_len}
use Rattle.sx_layout.specs.Dealing.{dealt, for_each_shard}
use Rattle.sx_layout.specs.Plan.{bits_at, purses_at}
use Rattle.sx_layout.specs.declared.share.Share.{Share}
use Rattle.sx_layout.proofs.opening.opening_words.Given as goal

abbrev pub invariant-loop-share : goal.invariant-loop-share
invariant-loop-share l = record {
  count : length l.yielded + into_iter_len l.share-iterator ≡ l.shards;
  place : vec_len l.bits ≡ length l.yielded;
  purses : l.purses.items ≡ for_each_shard (purses_at l.ledger l.shards) (length l.yielded);
  bits : l.bits.items ≡ for_each_shard (bits_at l.ledger l.names l.shards) (length l.yielded);
  balances_left : (k : ℕ) (d : Share) → length l.yielded + k < l.shards
      → (get_or (into_iter_items l.share-iterator) k d).balances.items
      ≡ purses_at l.ledger l.shards (length l.yielded + k);
  used_left : (k : ℕ) (d : Share) → length l.yielded + k < l.shards
      → (get_or (into_iter_items l.share-iterator) k d).used.items
      ≡ map (λ account. account.window.used) (dealt l.shards (length l.yielded + k) l.ledger.accounts);
}
