use Rattle.std.proofs.Common.{◌≡◌, true, false, refl, sym, ◌∙◌, arith}
use Rattle.std.proofs.lemmas.List.{get_or_read}
use Rattle.sx_event.specs.declared.event.Event.TheVariants.{Claim}
use Rattle.sx_event.specs.State.{word_of}
use Rattle.sx_event.specs.Step.{has_bit}
use Rattle.sx_event.specs.Machine.{state_of}
use Rattle.sx_event.proofs.Stepping.{allowed_inside, sound_after}
use Rattle.sx_event.proofs.machine.Core.claim.Goals as goal

pub invariant_of-self : goal.invariant_of-self
invariant_of-self c =
    let s = state_of c.self.inside in
    let allowed = allowed_inside c.self.inside c.args.self.now c.args.actor (Claim c.args.word c.args.bit)
    c.self.view_is c.requires.allowed in
    let found : c.index-found.result.now ≡ word_of s c.args.word =
    get_or_read s.bits c.args.word c.index-found.result.now allowed.1.0 c.index-found.ensures 0 in
    let held : has_bit (word_of s c.args.word) c.args.bit ≡ true =
    rw (← found) (sym c.has_bit.ensures ∙ c.if-has_bit.true) in
    sound_after c.self.inside _ c.args.self.now c.args.actor (Claim c.args.word c.args.bit) c.self.view_is
    c.self.invariant c.requires.allowed
    (rw (c.note_set.ensures.views, c.with_bit.ensures, found, held) refl)
    (omega (arith, c.note_set.ensures.room, c.self.invariant.room))

pub invariant_of-self-2 : goal.invariant_of-self-2
invariant_of-self-2 c =
    let s = state_of c.self.inside in
    let allowed = allowed_inside c.self.inside c.args.self.now c.args.actor (Claim c.args.word c.args.bit)
    c.self.view_is c.requires.allowed in
    let found : c.index-found.result.now ≡ word_of s c.args.word =
    get_or_read s.bits c.args.word c.index-found.result.now allowed.1.0 c.index-found.ensures 0 in
    let free : has_bit (word_of s c.args.word) c.args.bit ≡ false =
    rw (← found) (sym c.has_bit.ensures ∙ c.if-has_bit.false) in
    sound_after c.self.inside _ c.args.self.now c.args.actor (Claim c.args.word c.args.bit) c.self.view_is
    c.self.invariant c.requires.allowed
    (rw (c.claim.ensures.views, c.with_bit.ensures, found, free) refl)
    (omega (arith, c.claim.ensures.room, c.self.invariant.room))
