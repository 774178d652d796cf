use Rattle.std.proofs.Common.{◌≡◌, ◌++◌, take}
use Rattle.std.specs.List.{flat_map}
use Rattle.sx_commit.specs.Encoding.{digest_bytes}
use Rattle.sx_commit.proofs.proof_writing.put_siblings.Given as goal

abbrev pub invariant-loop-sibling : goal.invariant-loop-sibling
invariant-loop-sibling l = l.to ≡ l.fn.to ++ flat_map digest_bytes (take l.sibling-index l.siblings)
