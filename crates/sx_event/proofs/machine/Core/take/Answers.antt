use Rattle.std.proofs.Common.{◌≡◌, true, false, refl, sym, ◌∙◌, arith}
use Rattle.std.proofs.lemmas.List.{get_or_read}
use Rattle.sx_event.specs.declared.event.Event.TheVariants.{Take}
use Rattle.sx_event.specs.State.{view_of, purse_of}
use Rattle.sx_event.specs.Step.{wins}
use Rattle.sx_event.specs.Machine.{state_of}
use Rattle.sx_event.proofs.Words.{found_stays}
use Rattle.sx_event.proofs.Stepping.{allowed_inside, sound_after}
use Rattle.sx_event.proofs.machine.Core.take.Goals as goal

pub invariant_of-self : goal.invariant_of-self
invariant_of-self c =
    let s = state_of c.self.inside in
    let allowed = allowed_inside c.self.inside c.args.self.now c.args.actor (Take c.args.purse c.args.need)
    c.self.view_is c.requires.allowed in
    let found : c.index-found.result.now ≡ purse_of s c.args.purse =
    get_or_read s.purses c.args.purse c.index-found.result.now allowed.1.0 c.index-found.ensures 0 in
    let won : wins (view_of s c.args.actor) c.args.purse (purse_of s c.args.purse) ≡ true =
    rw (← found) (sym c.is_as_seen.ensures ∙ c.if-is_as_seen.true) in
    sound_after c.self.inside _ c.args.self.now c.args.actor (Take c.args.purse c.args.need) c.self.view_is
    c.self.invariant c.requires.allowed
    (rw (c.claim.ensures.views, found, won) refl) (omega (arith, c.claim.ensures.room, c.self.invariant.room))

pub invariant_of-self-2 : goal.invariant_of-self-2
invariant_of-self-2 c =
    let s = state_of c.self.inside in
    let allowed = allowed_inside c.self.inside c.args.self.now c.args.actor (Take c.args.purse c.args.need)
    c.self.view_is c.requires.allowed in
    let found : c.index-found.result.now ≡ purse_of s c.args.purse =
    get_or_read s.purses c.args.purse c.index-found.result.now allowed.1.0 c.index-found.ensures 0 in
    let lost : wins (view_of s c.args.actor) c.args.purse (purse_of s c.args.purse) ≡ false =
    rw (← found) (sym c.is_as_seen.ensures ∙ c.if-is_as_seen.false) in
    sound_after c.self.inside _ c.args.self.now c.args.actor (Take c.args.purse c.args.need) c.self.view_is
    c.self.invariant c.requires.allowed
    (rw (c.note_low.ensures.views, found, lost, found_stays s.purses c.args.purse) refl)
    (omega (arith, c.note_low.ensures.room, c.self.invariant.room))
