use Rattle.std.proofs.Common.{◌≡◌, refl, arith}
use Rattle.std.proofs.lemmas.List.{get_or_read}
use Rattle.sx_event.specs.declared.event.Event.TheVariants.{Look}
use Rattle.sx_event.specs.State.{purse_of}
use Rattle.sx_event.specs.Machine.{state_of}
use Rattle.sx_event.proofs.Stepping.{allowed_inside, sound_after}
use Rattle.sx_event.proofs.machine.Core.look.Goals as goal

pub invariant_of-self : goal.invariant_of-self
invariant_of-self c =
    let s = state_of c.self.inside in
    let allowed = allowed_inside c.self.inside c.args.self.now c.args.actor (Look c.args.purse) c.self.view_is
    c.requires.allowed in
    let found : c.index-found.result.now ≡ purse_of s c.args.purse =
    get_or_read s.purses c.args.purse c.index-found.result.now allowed.1 c.index-found.ensures 0 in
    sound_after c.self.inside _ c.args.self.now c.args.actor (Look c.args.purse) c.self.view_is c.self.invariant
    c.requires.allowed
    (rw (c.note_low.ensures.views, found) refl) (omega (arith, c.note_low.ensures.room, c.self.invariant.room))
