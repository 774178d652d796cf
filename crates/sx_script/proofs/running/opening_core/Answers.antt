use Rattle.std.proofs.Common.{◌<◌, ◌≤◌, ℕ, sym, subst, arith}
use Rattle.sx_event.specs.declared.event.Event.TheVariants.{Split}
use Rattle.sx_event.specs.Step.{StepAllowed}
use Rattle.sx_layout.specs.Plan.{words_of}
use Rattle.sx_script.proofs.Openings.{next_splits, split_allowed}
use Rattle.sx_script.proofs.running.opening_core.Goals as goal

pub step-requires : goal.step-requires
step-requires c =
    let plan = c.args.setting.now.plan in
    let enough : 1 < c.args.n → c.args.n ≤ c.args.count = λ more. omega (arith, c.requires.enough, more) in
    subst (λ (at : ℕ). StepAllowed c.loop-k.core.state c.loop-k.k (Split at)) (sym c.part_begin-at.ensures.begin)
    (split_allowed (words_of plan.purses 0) (words_of plan.bits 0) c.args.count c.args.n c.requires.some enough
    c.loop-k.k c.loop-k.core.state (omega (arith, c.loop-k-test.true, c.requires.some)) c.requires.few
    c.loop-k.invariant)

pub loop-k-preserved : goal.loop-k-preserved
loop-k-preserved c =
    let plan = c.args.setting.now.plan in
    next_splits (words_of plan.purses 0) (words_of plan.bits 0) c.args.count c.args.n c.loop-k.k c.part_begin-at.result
    c.loop-k.core.state c.step.new.core.state c.loop-k.invariant c.part_begin-at.ensures.begin
    c.in_ok-step.ensures.state
