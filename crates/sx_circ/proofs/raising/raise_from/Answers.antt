use Rattle.std.proofs.Common.{◌≢◌}
use Rattle.sx_circ.specs.Labels.{ArePairLevel}
use Rattle.sx_circ.proofs.Passes.{pass_loud, pass_quiet}
use Rattle.sx_dual.specs.Tables.{entry_at, high_of, low_of}
use Rattle.sx_circ.proofs.raising.raise_from.Goals as goal
use Rattle.sx_circ.proofs.raising.raise_from.Goals.{in-Nothing, in-Raised}

pub loop-head-preserved : goal.loop-head-preserved
loop-head-preserved c =
    let bounds = c.args.bounds.now in
    let y = entry_at bounds.assets c.args.values.now in
    elim c.match-raise_along.branch [
      | in-Nothing w ↦
          rw w.raised-is
          (pass_quiet bounds.assets (low_of bounds) (high_of bounds) y
          (λ walks k. c.args.tail ≢ k → ArePairLevel (low_of bounds) (high_of bounds) y walks c.args.tail k)
          c.args.walks.now c.loop-head.walks c.raise_along.new.walks c.loop-head.head c.loop-head.raised
          c.loop-head.invariant
          c.raise_along.ensures.labels w.in-Nothing.ensures.found.0 w.in-Nothing.ensures.found.1)
      | in-Raised w ↦
          rw w.raised-is
          (pass_loud bounds.assets (low_of bounds) (high_of bounds) y
          (λ walks k. c.args.tail ≢ k → ArePairLevel (low_of bounds) (high_of bounds) y walks c.args.tail k)
          c.args.walks.now c.loop-head.walks c.raise_along.new.walks c.loop-head.head c.loop-head.raised
          c.loop-head.invariant
          c.raise_along.ensures.labels w.in-Raised.ensures.found)
    ]
