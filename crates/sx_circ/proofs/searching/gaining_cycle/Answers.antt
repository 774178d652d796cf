use Rattle.std.proofs.Common.{arith}
use Rattle.sx_circ.proofs.Labelling.{total_bounded}
use Rattle.sx_dual.specs.Tables.{entry_at, high_of, low_of}
use Rattle.sx_circ.proofs.searching.gaining_cycle.Goals as goal

pub raises-smaller : goal.raises-smaller
raises-smaller c =
    let bounds = c.args.bounds.now in
    omega (
      arith,
      total_bounded bounds.assets (low_of bounds) (high_of bounds) (entry_at bounds.assets c.args.values.now)
          c.raise.new.walks c.raise.ensures.labels c.requires.few,
      c.in-Raised.ensures.found,
      c.raise.ensures.labels.count,
      c.raises.invariant.count,
    )
