-- A run, of its state and its actors.
use Rattle.std.specs.Prelude.{List}
use Rattle.sx_event.specs.State.{State}
use Rattle.sx_script.specs.Actors.{Actor}
use Rattle.sx_script.specs.RunKeeps.{RunFits}
use Rattle.sx_layout.specs.Setting.{Setting}
use Rattle.sx_script.specs.Running.{Run}

abbrev pub run_of : State → List Actor → Run
run_of state actors = record { state = state; actors = actors }

-- the next event of each actor is allowed
abbrev pub Fit : Setting → State → List Actor → Type 0
Fit setting state actors = RunFits setting.candidates setting.plan (run_of state actors)
