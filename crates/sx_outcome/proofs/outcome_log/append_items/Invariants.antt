use Rattle.std.proofs.Common.{◌≡◌, ◌+◌, ◌++◌, take}
use Rattle.std.specs.Prelude.{vec_capacity, vec_len}
use Rattle.sx_outcome.proofs.outcome_log.append_items.Given as goal

abbrev pub invariant-loop-item : goal.invariant-loop-item
invariant-loop-item g l = record {
  items : l.to.items ≡ l.fn.to.items ++ take l.item-index l.more;
  len : vec_len l.to ≡ vec_len l.fn.to + l.item-index;
  capacity : vec_capacity l.to ≡ vec_capacity l.fn.to;
}
