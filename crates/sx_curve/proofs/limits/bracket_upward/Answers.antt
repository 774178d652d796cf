use Rattle.std.proofs.Common.{◌+◌, ◌-◌, sym, ◌∙◌, arith}
use Rattle.sx_curve.proofs.BracketLaws.{above_from, below_through}
use Rattle.sx_curve.proofs.limits.bracket_upward.Goals.{else-loop-step-test, then-loop-step-test+else-is_below}
use Rattle.sx_curve.proofs.limits.bracket_upward.Goals as goal

pub loop-step-preserved : goal.loop-step-preserved
loop-step-preserved c =
    let kept = c.loop-step.invariant in
    let low = c.loop-step.low in
    let step = c.loop-step.step in
    record {
      some = omega (arith, kept.some);
      short = omega (arith, kept.short);
      within = omega (arith, kept.within, c.loop-step-test.true);
      below = below_through c.args.pair.now c.args.num c.args.den c.requires.in_order (low + (step - 1)) (low + step)
          c.index-pair-low.result (omega (arith, kept.some, kept.within, c.loop-step-test.true)) c.index-pair-low.is
          (sym c.is_below.ensures ∙ c.if-is_below.true) (omega (arith, kept.some));
    }

pub returns : goal.returns
returns c =
    let kept = c.loop-step.invariant in
    let low = c.loop-step.low in
    let step = c.loop-step.step in
    elim c.loop-step-test.branch [
      | then-loop-step-test+else-is_below w ↦
          let test = w.loop-step-test.true in
          let rest = above_from c.args.pair.now c.args.num c.args.den c.requires.in_order (low + (step - 1))
          w.index-pair-low.result (omega (arith, kept.some, kept.within, test)) w.index-pair-low.is
          (sym w.is_below.ensures ∙ w.if-is_below.false) in
          record {
            ordered = omega (arith, kept.some, kept.within, test, c.min.ensures);
            within = omega (arith, kept.within, c.min.ensures);
            below = kept.below;
            above = λ k d from to. rest k d (omega (arith, kept.some, kept.within, test, c.min.ensures)) to;
          }
      | else-loop-step-test w ↦
          let test = w.loop-step-test.false in
          record {
            ordered = omega (arith, kept.some, kept.within, test, c.min.ensures);
            within = omega (arith, kept.within, c.min.ensures);
            below = kept.below;
            above = λ k d from to. absurd (omega (arith, kept.some, kept.within, test, c.min.ensures));
          }
    ]
