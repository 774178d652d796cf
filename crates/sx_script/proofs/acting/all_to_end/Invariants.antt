use Rattle.std.proofs.Common.{◌≡◌}
use Rattle.sx_script.specs.Running.{all_to_end}
use Rattle.sx_script.specs.RunOf.{Fit, run_of}
use Rattle.sx_script.proofs.acting.all_to_end.Given as goal

abbrev pub invariant-loop-name : goal.invariant-loop-name
invariant-loop-name l = record {
  exact :
      run_of l.core.state l.hands
      ≡ all_to_end l.setting.parts l.setting.plan l.name (run_of l.fn.core.state l.fn.hands);
  fit : Fit l.setting l.core.state l.hands;
}
