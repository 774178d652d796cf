use Rattle.std.proofs.Common.{arith}
use Rattle.sx_circ.proofs.Ending.{value_bounded}
use Rattle.sx_circ.proofs.solver.cancel_all.Goals as goal

pub loop-cycle-smaller : goal.loop-cycle-smaller
loop-cycle-smaller c =
    omega (
      arith,
      value_bounded c.args.bounds.now c.cancel.new.values c.requires.bounds c.cancel.ensures.keeps,
      c.cancel.ensures.more,
    )
