use Rattle.std.proofs.Common.{◌≡◌, ℕ, ◌+◌, ◌<◌, ◌++◌, get_or, length, take}
use Rattle.std.specs.List.{filter}
use Rattle.sx_filter.specs.Additions.{AreAdditions}
use Rattle.sx_filter.specs.Ranges.{is_in}
use Rattle.sx_filter.specs.Sifted.{TxVec}
use Rattle.sx_filter.proofs.parts.by_range.put_each.Given as goal

abbrev pub invariant-loop-tx : goal.invariant-loop-tx
invariant-loop-tx l = record {
  one_each : length l.lists ≡ length l.cuts + 1;
  each : (range : ℕ) (d : TxVec) → range < length l.cuts + 1 → (get_or l.lists range d).items
      ≡ (get_or l.fn.lists range d).items ++ filter (is_in l.cuts range) (take l.tx-index l.list);
  more : AreAdditions (take l.tx-index l.list) l.more;
}
