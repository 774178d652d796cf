use Rattle.std.proofs.Common.{◌≡◌, take}
use Rattle.std.specs.List.{flat_map}
use Rattle.sx_bytes.proofs.list_in_parts.ListInParts.into_list.Given as goal

abbrev pub invariant-loop-list : goal.invariant-loop-list
invariant-loop-list g l = l.whole.items ≡ flat_map (λ list. list) (take l.list-index l.list-items)
