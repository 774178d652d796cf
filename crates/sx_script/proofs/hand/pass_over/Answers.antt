use Rattle.std.proofs.Common.{◌≡◌, Ok, Err, length, ◌∙◌, subst}
use Rattle.std.specs.List.{Contains}
use Rattle.sx_layout.specs.Setting.{Setting}
use Rattle.sx_script.proofs.PassingOver.{none_left, passes_first, passes_over, slice_all, stops_at_end, stops_here}
use Rattle.sx_script.proofs.hand.pass_over.Goals as goal
use Rattle.sx_ledger.specs.Places.{ArePlaces}
use Rattle.sx_ledger.specs.Static.{static_of}

pub loop-at-preserved : goal.loop-at-preserved
loop-at-preserved c =
    let tx = c.index-left-at.result in
    c.loop-at.invariant
    ∙ passes_over c.args.setting.now.parts c.args.left.now c.loop-at.at tx c.loop-at-test.true c.index-left-at.is
    c.in-Err.why c.loop-at.done.items c.push.new.self.items
    (subst (λ (s : Setting). static_of s.parts tx ≡ Err c.in-Err.why) c.setting.view_is c.in-Err.ensures.refused)
    c.in_ok-push-in-Err.ensures.items

pub returns-in-Ok-clause-actor : goal.returns-in-Ok-clause-actor
returns-in-Ok-clause-actor c =
    let tx = c.index-left-at.result in
    c.loop-at.invariant
    ∙ stops_here c.args.setting.now.parts c.args.left.now c.loop-at.at tx c.loop-at-test.true c.index-left-at.is
    c.loop-at.done.items
    (subst (λ (s : Setting). static_of s.parts tx ≡ Ok tt) c.setting.view_is c.in-Ok.ensures.passes)

pub returns-in-Ok-clause-places : goal.returns-in-Ok-clause-places
returns-in-Ok-clause-places c =
    let tx = c.index-left-at.result in
    passes_first c.args.setting.now.parts c.args.left.now c.loop-at.at tx c.loop-at-test.true c.index-left-at.is
    c.in-Ok.places (subst (λ (s : Setting). static_of s.parts tx ≡ Ok tt) c.setting.view_is c.in-Ok.ensures.passes)
    (subst (λ (s : Setting). ArePlaces s.parts tx c.in-Ok.places) c.setting.view_is c.in-Ok.ensures.places)

pub returns-in-Ok-clause-own : goal.returns-in-Ok-clause-own
returns-in-Ok-clause-own c = slice_all (Contains c.args.setting.now.candidates) c.args.left.now c.loop-at.at

pub returns-clause-actor : goal.returns-clause-actor
returns-clause-actor c =
    c.loop-at.invariant
    ∙ stops_at_end c.args.setting.now.parts c.args.left.now c.loop-at.at c.loop-at.done.items c.loop-at-test.false

pub returns-clause-places : goal.returns-clause-places
returns-clause-places c = none_left c.args.left.now

pub returns-clause-own : goal.returns-clause-own
returns-clause-own c =
    let left = c.args.left.now in
    slice_all (Contains c.args.setting.now.candidates) left (length left)
