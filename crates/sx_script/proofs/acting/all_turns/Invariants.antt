use Rattle.std.proofs.Common.{◌≡◌, drop}
use Rattle.sx_script.specs.Running.{after_turns}
use Rattle.sx_script.specs.RunOf.{Fit, run_of}
use Rattle.sx_script.proofs.acting.all_turns.Given as goal

abbrev pub invariant-loop-name : goal.invariant-loop-name
invariant-loop-name l = record {
  exact :
      after_turns l.setting.parts l.setting.plan (drop l.name-index l.turns) (run_of l.core.state l.hands)
      ≡ after_turns l.setting.parts l.setting.plan l.turns (run_of l.fn.core.state l.fn.hands);
  fit : Fit l.setting l.core.state l.hands;
}
