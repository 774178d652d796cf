use Rattle.std.proofs.Common.{◌-◌, sym, ◌∙◌, arith}
use Rattle.sx_curve.proofs.BracketLaws.{above_from, below_through}
use Rattle.sx_curve.proofs.limits.bracket_downward.Goals.{else-loop-step-test, then-loop-step-test+else-not-is_below}
use Rattle.sx_curve.proofs.limits.bracket_downward.Goals as goal

pub loop-step-preserved : goal.loop-step-preserved
loop-step-preserved c =
    let kept = c.loop-step.invariant in
    let high = c.loop-step.high in
    let step = c.loop-step.step in
    record {
      some = omega (arith, kept.some);
      short = omega (arith, kept.short, c.loop-step-test.true);
      above = above_from c.args.pair.now c.args.num c.args.den c.requires.in_order (high - step)
          c.index-pair-high.result (omega (arith, kept.some, kept.short, c.loop-step-test.true)) c.index-pair-high.is
          (sym c.is_below.ensures ∙ c.if-not-is_below.true);
    }

pub returns : goal.returns
returns c =
    let kept = c.loop-step.invariant in
    let high = c.loop-step.high in
    let step = c.loop-step.step in
    let low = c.saturating_sub.result in
    elim c.loop-step-test.branch [
      | then-loop-step-test+else-not-is_below w ↦
          let test = w.loop-step-test.true in
          record {
            ordered = omega (arith, kept.some, c.saturating_sub.ensures);
            within = omega (arith, kept.some, kept.short);
            below = below_through c.args.pair.now c.args.num c.args.den c.requires.in_order (high - step) low
                w.index-pair-high.result (omega (arith, kept.some, kept.short, test)) w.index-pair-high.is
                (sym w.is_below.ensures ∙ w.if-not-is_below.false)
                (omega (arith, test, c.saturating_sub.ensures));
            above = kept.above;
          }
      | else-loop-step-test w ↦
          let test = w.loop-step-test.false in
          record {
            ordered = omega (arith, kept.some, c.saturating_sub.ensures);
            within = omega (arith, kept.some, kept.short);
            below = λ k d from to. absurd (omega (arith, test, c.saturating_sub.ensures));
            above = kept.above;
          }
    ]
