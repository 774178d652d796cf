use Rattle.sx_script.proofs.StepFits.{act_fits, act_others, next_allowed, on_ok, ready_now}
use Rattle.sx_script.proofs.acting.act.Goals as goal

pub step-requires : goal.step-requires
step-requires c =
    let s = c.args.setting.now in
    let is = rw c.in-Some.is at c.in_ok-ahead.ensures.ahead in
    let now = ready_now s c.args.core.now.state c.args.name c.args.hand.now c.ahead.new.self
    c.in_ok-ahead.ensures.actor c.requires.fits c.in_ok-ahead.ensures.own in
    next_allowed s c.args.core.now.state c.args.name c.ahead.new.self c.ahead.new.self.left c.in-Some.ahead
    c.requires.words now is

pub returns-in-None-clause-fits : goal.returns-in-None-clause-fits
returns-in-None-clause-fits c =
    ready_now c.args.setting.now c.args.core.now.state c.args.name c.args.hand.now c.ahead.new.self
    c.in_ok-ahead.ensures.actor c.requires.fits c.in_ok-ahead.ensures.own

pub returns-in_ok-told-in-Some-clause-fits : goal.returns-in_ok-told-in-Some-clause-fits
returns-in_ok-told-in-Some-clause-fits c =
    let s = c.args.setting.now in
    let is = rw c.in-Some.is at c.in_ok-ahead.ensures.ahead in
    let now = ready_now s c.args.core.now.state c.args.name c.args.hand.now c.ahead.new.self
    c.in_ok-ahead.ensures.actor c.requires.fits c.in_ok-ahead.ensures.own in
    on_ok c.follow.result _ _
    (act_fits s c.args.core.now.state c.step.new.core.state c.args.name c.ahead.new.self c.follow.new.self
    c.in-Some.ahead c.stage.result c.in_ok-told-in-Some.told c.follows-next.result c.requires.words now is
    c.in_ok-told-in-Some.ensures.state c.stage.ensures c.in_ok-told-in-Some.ensures.told c.follows-next.ensures)
    c.follow.ensures

pub returns-in_ok-told-in-Some-clause-others : goal.returns-in_ok-told-in-Some-clause-others
returns-in_ok-told-in-Some-clause-others c =
    let is = rw c.in-Some.is at c.in_ok-ahead.ensures.ahead in
    on_ok c.follow.result _ _
    (λ done other actor apart fits. act_others c.args.setting.now c.args.core.now.state c.step.new.core.state
    c.args.name other c.ahead.new.self actor c.in-Some.ahead is c.in_ok-told-in-Some.ensures.state apart fits)
    c.follow.ensures
