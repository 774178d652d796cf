use Rattle.std.proofs.Common.{◌≡◌}
use Rattle.sx_script.specs.Running.{after_own}
use Rattle.sx_script.specs.RunOf.{Fit, run_of}
use Rattle.sx_script.proofs.acting.own_turns.Given as goal

abbrev pub invariant-own : goal.invariant-own
invariant-own l = record {
  exact :
      run_of l.core.state l.hands
      ≡ after_own l.setting.parts l.setting.plan l.name l.counter (run_of l.fn.core.state l.fn.hands);
  fit : Fit l.setting l.core.state l.hands;
}
