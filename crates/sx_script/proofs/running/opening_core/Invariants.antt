use Rattle.std.proofs.Common.{◌≡◌}
use Rattle.sx_event.specs.State.{begun}
use Rattle.sx_script.specs.Actors.{after_splits}
use Rattle.sx_layout.specs.Plan.{words_of}
use Rattle.sx_script.proofs.running.opening_core.Given as goal

abbrev pub invariant-loop-k : goal.invariant-loop-k
invariant-loop-k l =
    l.core.state
    ≡ after_splits l.count l.n l.k
    (begun (words_of l.setting.plan.purses 0) (words_of l.setting.plan.bits 0) l.count)
