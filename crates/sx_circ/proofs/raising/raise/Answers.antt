use Rattle.sx_circ.specs.Labels.{AreLevelFrom}
use Rattle.sx_circ.proofs.Passes.{pass_loud, pass_quiet}
use Rattle.sx_dual.specs.Tables.{entry_at, high_of, low_of}
use Rattle.sx_circ.proofs.raising.raise.Goals as goal
use Rattle.sx_circ.proofs.raising.raise.Goals.{in-Nothing, in-Raised}

pub loop-tail-preserved : goal.loop-tail-preserved
loop-tail-preserved c =
    let bounds = c.args.bounds.now in
    let y = entry_at bounds.assets c.args.values.now in
    elim c.match-raise_from.branch [
      | in-Nothing w ↦
          rw w.raised-is
          (pass_quiet bounds.assets (low_of bounds) (high_of bounds) y
          (λ walks k. AreLevelFrom bounds.assets (low_of bounds) (high_of bounds) y walks k)
          c.args.walks.now c.loop-tail.walks c.raise_from.new.walks c.loop-tail.tail c.loop-tail.raised
          c.loop-tail.invariant
          c.raise_from.ensures.labels w.in-Nothing.ensures.found.0 w.in-Nothing.ensures.found.1)
      | in-Raised w ↦
          rw w.raised-is
          (pass_loud bounds.assets (low_of bounds) (high_of bounds) y
          (λ walks k. AreLevelFrom bounds.assets (low_of bounds) (high_of bounds) y walks k)
          c.args.walks.now c.loop-tail.walks c.raise_from.new.walks c.loop-tail.tail c.loop-tail.raised
          c.loop-tail.invariant
          c.raise_from.ensures.labels w.in-Raised.ensures.found)
    ]
