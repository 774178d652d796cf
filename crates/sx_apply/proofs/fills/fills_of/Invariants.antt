use Rattle.std.proofs.Common.{length}
use Rattle.sx_apply.proofs.Runs.{Done}
use Rattle.sx_apply.proofs.fills.fills_of.Given as goal
use Rattle.sx_dual.specs.Tables.{value_of}
use Rattle.sx_fill.specs.AllFills.{fill_of}

abbrev pub invariant-loop-first : goal.invariant-loop-first
invariant-loop-first l = Done (fill_of l.prices (value_of l.flow) l.offers) l.offers l.left l.fills.items

abbrev pub decreases-loop-first : goal.decreases-loop-first
decreases-loop-first l = length l.left
