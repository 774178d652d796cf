use Rattle.std.proofs.Common.{refl, arith}
use Rattle.sx_event.specs.declared.event.Event.TheVariants.{Join}
use Rattle.sx_event.proofs.Stepping.{sound_after}
use Rattle.sx_event.proofs.machine.Core.join.Goals as goal

pub invariant_of-self : goal.invariant_of-self
invariant_of-self c =
    sound_after c.self.inside _ c.args.self.now c.args.actor (Join c.args.other) c.self.view_is c.self.invariant
    c.requires.allowed
    (rw c.join.ensures.views refl) (omega (arith, c.join.ensures.room, c.self.invariant.room))
