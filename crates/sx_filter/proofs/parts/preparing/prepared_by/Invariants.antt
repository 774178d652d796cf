use Rattle.std.proofs.Common.{take}
use Rattle.sx_filter.specs.Additions.{AreAdditions}
use Rattle.sx_filter.proofs.Joined.{all}
use Rattle.sx_filter.proofs.parts.preparing.prepared_by.Given as goal

abbrev pub invariant-loop-part : goal.invariant-loop-part
invariant-loop-part g l = AreAdditions (all (take l.part-index l.fn.lists)) l.more
