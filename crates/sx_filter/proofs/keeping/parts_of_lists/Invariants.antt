use Rattle.std.proofs.Common.{◌≡◌}
use Rattle.std.specs.List.{flat_map}
use Rattle.sx_filter.specs.Sifted.{in_lists}
use Rattle.sx_filter.proofs.keeping.parts_of_lists.Given as goal

abbrev pub invariant-loop-txs : goal.invariant-loop-txs
invariant-loop-txs l = flat_map (λ list. list) l.parts.items ≡ in_lists l.yielded
