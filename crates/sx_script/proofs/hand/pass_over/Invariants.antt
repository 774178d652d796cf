use Rattle.std.proofs.Common.{◌≡◌, drop}
use Rattle.sx_script.specs.Running.{passed}
use Rattle.sx_script.proofs.hand.pass_over.Given as goal

abbrev pub invariant-loop-at : goal.invariant-loop-at
invariant-loop-at l =
    passed l.setting.parts l.left l.fn.done.items ≡ passed l.setting.parts (drop l.at l.left) l.done.items
