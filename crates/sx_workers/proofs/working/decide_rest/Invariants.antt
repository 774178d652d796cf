use Rattle.std.proofs.Common.{◌≡◌, ◌+◌}
use Rattle.sx_gather.specs.Passes.{IsPassOf}
use Rattle.sx_workers.proofs.working.decide_rest.Given as goal

abbrev pub invariant-loop-index : goal.invariant-loop-index
invariant-loop-index g l =
    IsPassOf l.gather l.pass × (l.pass.from ≡ l.initial.pass.from) × (l.pass.end ≡ l.initial.pass.end)
    × (l.pass.next ≡ l.index) × (l.pass.next + l.pass.spare ≡ l.initial.pass.next + l.initial.pass.spare)
