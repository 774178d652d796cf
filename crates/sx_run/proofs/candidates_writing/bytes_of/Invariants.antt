use Rattle.std.proofs.Common.{◌≡◌, ◌+◌, drop, length}
use Rattle.sx_run.proofs.PartLists.{all}
use Rattle.sx_run.proofs.candidates_writing.bytes_of.Given as goal

abbrev pub invariant-loop-one : goal.invariant-loop-one
invariant-loop-one l = l.size + length (all (drop l.one-index l.told)) ≡ length (all l.told)
