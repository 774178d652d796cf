use Rattle.std.proofs.Common.{◌≡◌, ◌+◌, drop, length}
use Rattle.sx_run.proofs.PartLists.{all}
use Rattle.sx_run.proofs.candidates_writing.count_of.Given as goal

abbrev pub invariant-loop-part : goal.invariant-loop-part
invariant-loop-part l = l.count + length (all (drop l.part-index l.parts)) ≡ length (all l.parts)
