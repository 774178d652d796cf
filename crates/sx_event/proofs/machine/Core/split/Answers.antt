use Rattle.std.proofs.Common.{refl, arith}
use Rattle.sx_event.specs.declared.event.Event.TheVariants.{Split}
use Rattle.sx_event.proofs.Stepping.{sound_after}
use Rattle.sx_event.proofs.machine.Core.split.Goals as goal

pub invariant_of-self : goal.invariant_of-self
invariant_of-self c =
    sound_after c.self.inside _ c.args.self.now c.args.actor (Split c.args.at) c.self.view_is c.self.invariant
    c.requires.allowed
    (rw c.split.ensures.views refl) (omega (arith, c.split.ensures.room, c.self.invariant.room))
